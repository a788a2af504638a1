-- `better` meets its contract: the definition's choice, one step. Assumes nothing.
use borrow.Author.Tests.{lt-ltb, le-ltb}
use Rattle.rfc9639.specs.SubframeCoding.{fewest_of}
use Rattle.subframe_choice.proofs.offer.better.Goals as goal

pub returns-then-other-best : goal.returns-then-other-best
unfolding fewest_of
returns-then-other-best c = simp (lt-ltb _ _ c.if-other-best.true)

pub returns-else-other-best : goal.returns-else-other-best
unfolding fewest_of
returns-else-other-best c = simp (le-ltb _ _ c.if-other-best.false)
