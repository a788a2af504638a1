-- `predict_fixed`: each turn restores one sample (Restored). Assumes nothing.
use Prim.Native.Nat.{ℕ, ◌≤◌}
use native.Mathlib.Omega.{arith}
use mathlib.Core.Path.{◌≡◌, ◌∙◌}
use borrow.Author.Rules.{rules}
use lib.ListN.{length}
use Rattle.rfc9639.specs.Prediction.{fixed_coefficients}
use Rattle.subframe.proofs.PredictionSums.{fixed-row}
use Rattle.subframe.proofs.PredictionInPlace.{turn, end, resumed-predict}
use Rattle.subframe.proofs.predict.predict_fixed.Goals as goal

as_many : (order : ℕ) → order ≤ 3 → length (fixed_coefficients order) ≡ order
as_many order h = (fixed-row order (omega arith)).0

pub loop-i-preserved : goal.loop-i-preserved
loop-i-preserved c =
    turn c.loop-i.invariant (as_many c.args.order c.requires.1) _ _ (omega arith) c.fixed_sum-sum.ensures.0 c.restore.ensures
    (record { sfits = c.fixed_sum-sum.type_inv }) (search rules) (record { sfits = c.restore.type_inv })

pub returns : goal.returns
returns c = end c.loop-i.invariant (omega arith) ∙ resumed-predict _ _ _ _ (as_many c.args.order c.requires.1)
