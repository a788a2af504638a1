-- `frame_list::window::fill_to` meets its contract, and ends: a read brings a byte or uses up a try. Assumes nothing.
use Rattle.frame_list.specs.declared.window.Rest.{Rest}
use Rattle.frame_list.proofs.FillInvariant.{read_keeps, fill-ends}
use Rattle.frame_list.proofs.window.fill_to.Goals as goal

pub loop-held-preserved : goal.loop-held-preserved
loop-held-preserved c = read_keeps c.loop-held.invariant c.read_once.auto.window c.read_once.ensures.kept

pub returns-in-Err-2 : goal.returns-in-Err-2
returns-in-Err-2 c = fill-ends (Rest.Failed _) (read_keeps c.loop-held.invariant c.read_once.auto.window c.read_once.ensures.kept) tt
