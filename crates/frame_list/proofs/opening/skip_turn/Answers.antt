-- `frame_list::opening::skip_turn` meets its contract, by where the heads lead. Assumes nothing.
use Rattle.frame_list.proofs.BlockTurns.{passes_turns}
use Rattle.frame_list.proofs.opening.skip_turn.Goals as goal

pub returns-in-Ok : goal.returns-in-Ok
returns-in-Ok c = passes_turns _ _ c.args.skip c.requires c.in-Ok.ensures _ c.pass_on.ensures
