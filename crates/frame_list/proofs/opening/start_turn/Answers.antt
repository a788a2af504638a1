-- `frame_list::opening::start_turn` meets its contract, by what the first bytes are. Assumes nothing.
use Rattle.frame_list.proofs.StreamStarts.{unstarted_turns}
use Rattle.frame_list.proofs.opening.start_turn.Goals as goal

pub returns-in-Err : goal.returns-in-Err
returns-in-Err c = unstarted_turns _ _ _ _ c.in-Err.ensures _ c.no_start.ensures
