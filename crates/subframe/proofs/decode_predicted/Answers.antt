-- `decode_predicted`: the residual into the rest of the block, then prediction in place. Assumes nothing.
use mathlib.Core.Path.{◌∙◌}
use lib.ListN.{length, take}
use Rattle.reading.specs.Readers.{done}
use Rattle.rfc9639.specs.Residual.{residual}
use Rattle.rfc9639.specs.Prediction.{predict}
use Rattle.subframe.proofs.SliceParts.{passed_on, then_done}
use Rattle.subframe.proofs.DecodedSubframes.{predicted-put}
use Rattle.subframe.proofs.decode_predicted.Goals as goal

-- the residual may be refused, and then the block keeps what was left in it
pub returns-in_err-p : goal.returns-in_err-p
returns-in_err-p c =
    let a = c.args in let cs = a.predictor.now.coefficients.now in
    passed_on (residual (length cs) (length a.out.now)) a.s.now a.at (λ r. done (predict cs a.predictor.now.shift (take (length cs) a.out.now) r)) _ _
    c.from_residual.ensures.1 c.in_err-p.ensures _

pub returns : goal.returns
returns c =
    let a = c.args in let cs = a.predictor.now.coefficients.now in
    then_done (residual (length cs) (length a.out.now)) (λ r. predict cs a.predictor.now.shift (take (length cs) a.out.now) r) a.s.now a.at c.in_ok-p.ensures
    (c.predict.ensures ∙ predicted-put cs a.predictor.now.shift a.out.now c.decode_residual.new.out c.requires.1)
