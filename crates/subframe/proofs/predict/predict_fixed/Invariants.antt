-- `predict_fixed`: each turn restores one sample (Restored). Assumes nothing.
use Rattle.rfc9639.specs.Prediction.{fixed_coefficients}
use Rattle.subframe.proofs.PredictionInPlace.{Restored}
use Rattle.subframe.proofs.predict.predict_fixed.Given as goal

abbrev pub invariant-loop-i : goal.invariant-loop-i
invariant-loop-i l = Restored (fixed_coefficients l.order) 0 l.initial.out l.order l.out l.i
