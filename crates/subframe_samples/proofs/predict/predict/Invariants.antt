-- `predict` meets its contract: a product for each coefficient, each exact. Assumes nothing.
use Rattle.subframe_samples.specs.Sources.{stored_by}
use Rattle.subframe_samples.proofs.Predictions.{PredictionSoFar}
use Rattle.subframe_samples.proofs.predict.predict.Given as goal

abbrev pub invariant-loop-k : goal.invariant-loop-k
invariant-loop-k l = PredictionSoFar l.coefficients (stored_by l.source) l.i l.k l.sum
