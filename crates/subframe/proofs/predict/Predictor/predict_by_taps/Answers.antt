-- `Predictor::predict_by_taps`: each turn restores one sample (Restored). Assumes nothing.
use native.Mathlib.Omega.{arith}
use mathlib.Core.Path.{◌∙◌}
use borrow.Author.Rules.{rules}
use Rattle.subframe.proofs.PredictionInPlace.{turn, end, resumed-predict}
use Rattle.subframe.proofs.predict.Predictor.predict_by_taps.Goals as goal

pub loop-i-preserved : goal.loop-i-preserved
loop-i-preserved g c =
    turn c.loop-i.invariant c.requires.0 c.dot-sum.result _ (omega arith) (cc (c.dot-sum.ensures.0, c.copy_from_slice.ensures.after)) c.restore.ensures
    (record { sfits = c.dot-sum.type_inv }) (search rules) (record { sfits = c.restore.type_inv })

pub returns : goal.returns
returns g c = end c.loop-i.invariant (omega arith) ∙ resumed-predict _ _ _ _ c.requires.0
