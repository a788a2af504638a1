-- `add_quotients` meets its contract: a turn for each sum (Joining). Assumes nothing.
use native.Mathlib.Omega.{arith}
use Rattle.subframe_choice.proofs.QuotientSums.{begin, fits, step, end}
use Rattle.subframe_choice.proofs.tally.add_quotients.Goals as goal

pub loop-k-init : goal.loop-k-init
loop-k-init c = begin _ _ c.requires.1

pub overflow_add-sum : goal.overflow_add-sum
overflow_add-sum c = record { fits = fits c.loop-k.invariant (omega arith) }

pub loop-k-preserved : goal.loop-k-preserved
loop-k-preserved c = step c.loop-k.invariant (omega arith)

pub returns : goal.returns
returns c = end c.loop-k.invariant (omega arith)
