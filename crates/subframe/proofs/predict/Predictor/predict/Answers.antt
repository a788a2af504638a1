-- `Predictor::predict`: a fixed order by its coefficients, any other by their number. Assumes nothing.
use native.Mathlib.Omega.{arith}
use borrow.Author.Rules.{rules}
use Rattle.subframe.proofs.FixedSums.{row_1, row_2, row_3}
use Rattle.subframe.proofs.predict.Predictor.predict.Goals as goal

pub returns-in-1 : goal.returns-in-1
returns-in-1 c =
    let l = c.args.self.now.coefficients.now in
    rw (row_1 l (λ i h. search rules) (omega arith) (search rules), c.if-shift-eq0.true) c.predict_fixed.ensures

pub returns-in-2 : goal.returns-in-2
returns-in-2 c =
    let l = c.args.self.now.coefficients.now in
    rw (row_2 l (λ i h. search rules) (omega arith) (search rules) (search rules), c.if-shift-eq0-2.true) c.predict_fixed-in-2.ensures

pub returns-in-3 : goal.returns-in-3
returns-in-3 c =
    let l = c.args.self.now.coefficients.now in
    rw (row_3 l (λ i h. search rules) (omega arith) (search rules) (search rules) (search rules), c.if-shift-eq0-3.true) c.predict_fixed-in-3.ensures
