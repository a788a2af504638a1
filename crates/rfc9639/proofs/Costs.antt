-- Costs: how many bits each candidate has. Assumes nothing.
use Prim.Native.Nat.{ℕ, suc, ◌+◌, ◌*◌, ◌/◌, ◌^◌, ◌≤◌}
use native.Mathlib.Nat.{zero-mul, suc-mul}
use native.Mathlib.Omega.{arith}
use mathlib.Core.Path.{◌≡◌, refl, ap, ap₂, sym, ◌∙◌}
use mathlib.Core.List.{List, [], ◌∷◌, ◌++◌}
use lib.IntN.{ℤ}
use lib.ListN.{length, take, length-append}
use lib.Seq.{length-take-le}
use Rattle.reading.specs.NumbersAsBits.{bits_of, unary, row}
use Rattle.reading.proofs.Postconditions.{total}
use Rattle.reading.proofs.NumbersAsBits.{length-bits_of, length-unary}
use Rattle.rfc9639.specs.declared.Candidate.TheVariants.{Constant, Verbatim, Fixed}
use Rattle.rfc9639.specs.Integers.{low}
use Rattle.rfc9639.specs.SubframeCoding.{fold, rice_bits, residual_bits, fixed_residuals, plain, subframe_header_bits, coded_as, cost}

length-plain : (w : ℕ) (xs : List ℤ) → length (plain w xs) ≡ length xs * w
unfolding plain row
length-plain w [] = sym (zero-mul w)
length-plain w (x ∷ xs) =
    length-append (bits_of w (low w x)) (plain w xs) ∙ ap₂ (λ (m n : ℕ). m + n) (length-bits_of w (low w x)) (length-plain w xs)
    ∙ (let e : w + length xs * w ≡ suc (length xs) * w = omega (arith, suc-mul (length xs) w) in e)

-- the sum of the residuals' quotients, which are stored in unary
abbrev pub quotients : ℕ → List ℤ → ℕ
quotients k = total (λ r. fold r / 2 ^ k)

length-rice : (k : ℕ) (r : ℤ) → length (rice_bits k r) ≡ fold r / 2 ^ k + (k + 1)
unfolding rice_bits
length-rice k r =
    length-append (unary (fold r / 2 ^ k)) (bits_of k (fold r))
    ∙ (let e : length (unary (fold r / 2 ^ k)) + length (bits_of k (fold r)) ≡ fold r / 2 ^ k + (k + 1) = omega (arith, length-unary (fold r / 2 ^ k), length-bits_of k (fold r)) in e)

length_rices : (k : ℕ) (rs : List ℤ) → length (row (rice_bits k) rs) ≡ quotients k rs + length rs * (k + 1)
unfolding row
length_rices k [] = let e : 0 ≡ 0 + 0 * (k + 1) = omega (arith, zero-mul (k + 1)) in e
length_rices k (r ∷ rs) =
    length-append (rice_bits k r) (row (rice_bits k) rs) ∙ ap₂ (λ (m n : ℕ). m + n) (length-rice k r) (length_rices k rs)
    ∙ (let e : fold r / 2 ^ k + (k + 1) + (quotients k rs + length rs * (k + 1)) ≡ fold r / 2 ^ k + quotients k rs + suc (length rs) * (k + 1) = omega (arith, suc-mul (length rs) (k + 1)) in e)

length-subframe_header_bits : (code : ℕ) → length (subframe_header_bits code) ≡ 8
unfolding subframe_header_bits bits_of
length-subframe_header_bits code = refl

length-residual : (k : ℕ) (rs : List ℤ) → length (residual_bits k rs) ≡ 10 + (quotients k rs + length rs * (k + 1))
unfolding residual_bits bits_of
length-residual k rs = omega (arith, length_rices k rs)

module _ (w : ℕ) (xs : List ℤ) where
  pub cost-constant : cost w xs Constant ≡ 8 + length (take 1 xs) * w
  unfolding cost coded_as
  cost-constant = length-append (subframe_header_bits 0) (plain w (take 1 xs)) ∙ ap₂ (λ (m n : ℕ). m + n) (length-subframe_header_bits 0) (length-plain w (take 1 xs))

  pub cost-verbatim : cost w xs Verbatim ≡ 8 + length xs * w
  unfolding cost coded_as
  cost-verbatim = length-append (subframe_header_bits 1) (plain w xs) ∙ ap₂ (λ (m n : ℕ). m + n) (length-subframe_header_bits 1) (length-plain w xs)

  pub cost-fixed : (order k : ℕ) → order ≤ length xs
      → cost w xs (Fixed order k) ≡ 18 + order * w + (quotients k (fixed_residuals order xs) + length (fixed_residuals order xs) * (k + 1))
  unfolding cost coded_as
  cost-fixed order k h =
      length-append (subframe_header_bits (8 + order) ++ plain w (take order xs)) (residual_bits k (fixed_residuals order xs))
      ∙ ap₂ (λ (m n : ℕ). m + n) front (length-residual k (fixed_residuals order xs))
      ∙ (let e : 8 + order * w + (10 + (quotients k (fixed_residuals order xs) + length (fixed_residuals order xs) * (k + 1))) ≡ 18 + order * w + (quotients k (fixed_residuals order xs) + length (fixed_residuals order xs) * (k + 1)) = omega arith in e)
    where
      front : length (subframe_header_bits (8 + order) ++ plain w (take order xs)) ≡ 8 + order * w
      front =
          length-append (subframe_header_bits (8 + order)) (plain w (take order xs))
          ∙ ap₂ (λ (m n : ℕ). m + n) (length-subframe_header_bits (8 + order)) (length-plain w (take order xs) ∙ ap (λ n. n * w) (length-take-le order xs h))
