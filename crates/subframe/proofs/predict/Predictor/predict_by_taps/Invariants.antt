-- `Predictor::predict_by_taps`: each turn restores one sample (Restored). Assumes nothing.
use Rattle.subframe.proofs.PredictionInPlace.{Restored}
use Rattle.subframe.proofs.predict.Predictor.predict_by_taps.Given as goal

abbrev pub invariant-loop-i : goal.invariant-loop-i
invariant-loop-i g l = Restored l.fn.self.coefficients.now l.shift l.initial.out g.row.N l.out l.i
