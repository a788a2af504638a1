-- `predicted_at` meets its contract, order by order. Assumes nothing.
use native.Mathlib.Omega.{arith}
use borrow.Author.Tests.{ne_eqb}
use mathlib.Core.Path.{◌≡◌, refl, sym, ap, ◌∙◌}
use Rattle.rfc9639.specs.Prediction.{fixed_coefficients}
use Rattle.subframe_samples.specs.Sources.{stored_by}
use Rattle.subframe_samples.specs.Private.{predicted_at}
use Rattle.subframe_samples.proofs.Predictions.{predicted-none, with_coefficients, same-coefficients}
use Rattle.subframe_samples.proofs.predict.predicted_at.Goals as goal

pub returns-in-0 : goal.returns-in-0
returns-in-0 c =
    let xs = stored_by c.args.source.now in
    (predicted-none xs c.args.i ∙ ap (λ o. predicted_at o xs c.args.i) (sym c.in-0.is), omega arith)

pub returns-in-1 : goal.returns-in-1
unfolding fixed_coefficients
returns-in-1 c = same-coefficients (record { sfits = c.predict.type_inv }) c.predict.ensures (with_coefficients _ c.args.i c.args.order (rw c.in-1.is refl))

pub returns-in-2 : goal.returns-in-2
unfolding fixed_coefficients
returns-in-2 c = same-coefficients (record { sfits = c.predict-in-2.type_inv }) c.predict-in-2.ensures (with_coefficients _ c.args.i c.args.order (rw c.in-2.is refl))

pub returns-in-3 : goal.returns-in-3
unfolding fixed_coefficients
returns-in-3 c = same-coefficients (record { sfits = c.predict-in-3.type_inv }) c.predict-in-3.ensures (with_coefficients _ c.args.i c.args.order (rw c.in-3.is refl))

pub returns-in_default : goal.returns-in_default
unfolding fixed_coefficients
returns-in_default c =
    let none : c.args.order ≡ 0 → ⊥ = λ e. omega arith in
    let one : c.args.order ≡ 1 → ⊥ = λ e. omega arith in
    let two : c.args.order ≡ 2 → ⊥ = λ e. omega arith in
    let three : c.args.order ≡ 3 → ⊥ = λ e. omega arith in
    same-coefficients (record { sfits = c.predict-in_default.type_inv }) c.predict-in_default.ensures
    (with_coefficients _ c.args.i c.args.order (rw (ne_eqb _ _ none, ne_eqb _ _ one, ne_eqb _ _ two, ne_eqb _ _ three) refl))
