-- `better_fixed` meets its contract: it counts each candidate's bits as the definition does. Assumes nothing.
use Prim.Native.Nat.{ℕ, ◌+◌, ◌-◌, ◌*◌, ◌^◌, ◌<◌}
use native.Mathlib.Omega.{arith}
use mathlib.Core.Path.{◌≡◌, ap, sym, ◌∙◌}
use mathlib.Core.List.{List}
use lib.IntN.{ℤ}
use lib.ListN.{length}
use Rattle.rfc9639.specs.SubframeCoding.{fixed_residuals}
use Rattle.rfc9639.proofs.Lengths.{length-fixed_residuals}
use Rattle.number.proofs.ProductSums.{product_at_most}
use Rattle.subframe_choice.proofs.QuotientSums.{length-sums}
use Rattle.subframe_choice.proofs.CandidateBits.{fixed_choice}
use Rattle.subframe_choice.proofs.better_fixed.Goals as goal

-- as many residuals as samples after the warm-up
count_is : (order : ℕ) (xs : List ℤ) {n m : ℕ} → n ≡ m - order → m ≡ length xs → n ≡ length (fixed_residuals order xs)
count_is order xs e f = e ∙ ap (λ m. m - order) f ∙ sym (length-fixed_residuals order xs)

head_is : (order width : ℕ) {h : ℕ} → h ≡ 8 + order * width → h + 10 ≡ 18 + order * width
head_is order width e = omega arith

head_small : (order width : ℕ) {h : ℕ} → order < 5 → width < 2 ^ 32 → h ≡ 8 + order * width → h + 10 < 2 ^ 60
head_small order width h l e = omega (arith, product_at_most 5 (2 ^ 32) h l)

pub overflow_add-head : goal.overflow_add-head
overflow_add-head c = record { fits = omega (arith, head_small _ _ c.requires.0 c.ranges.width.fits c.plain_bits-head.ensures) }

pub quotient_sums-sums-requires : goal.quotient_sums-sums-requires
quotient_sums-sums-requires c =
    (omega (arith, c.saturating_sub-count.ensures, c.len.ensures.1), count_is _ _ c.saturating_sub-count.ensures c.len.ensures.0)

pub best_parameter-requires : goal.best_parameter-requires
best_parameter-requires c =
    (ap length c.quotient_sums-sums.ensures.0 ∙ length-sums _, c.quotient_sums-sums.ensures.1, head_small _ _ c.requires.0 c.ranges.width.fits c.plain_bits-head.ensures, omega (arith, c.saturating_sub-count.ensures, c.len.ensures.1))

pub returns : goal.returns
returns c =
    fixed_choice _ _ _ (omega arith) (head_is _ _ c.plain_bits-head.ensures) (count_is _ _ c.saturating_sub-count.ensures c.len.ensures.0)
    c.quotient_sums-sums.ensures.0 c.best_parameter.ensures
