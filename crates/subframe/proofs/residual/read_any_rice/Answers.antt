-- `read_any_rice`: a place is a byte with fewer than eight bits after it. Assumes nothing.
use borrow.Author.Rules.{rules}
use Rattle.subframe.proofs.RiceWords.{any_got, any_refused}
use Rattle.subframe.proofs.residual.read_any_rice.Goals as goal

pub returns-in_err-x : goal.returns-in_err-x
returns-in_err-x c = any_refused _ _ _ c.place.ensures _ _ c.from_residual.ensures.1 c.in_err-x.ensures

pub returns : goal.returns
returns c = rw c.from.ensures (any_got _ _ _ c.place.ensures c.in_ok-x.ensures (search rules))
