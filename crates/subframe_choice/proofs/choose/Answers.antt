-- `choose` meets its contract: a turn for each order (Judged). Assumes nothing.
use native.Mathlib.Omega.{arith}
use Rattle.subframe_choice.proofs.OrderChoice.{begin, step, end}
use Rattle.subframe_choice.proofs.choose.Goals as goal

pub loop-order-init : goal.loop-order-init
loop-order-init c = begin _ _ c.best_plain-best.ensures

pub loop-order-preserved : goal.loop-order-preserved
loop-order-preserved c = step _ _ c.loop-order.invariant (omega arith) c.better_fixed-best.ensures

pub returns : goal.returns
returns c = end _ _ c.loop-order.invariant (omega arith)
