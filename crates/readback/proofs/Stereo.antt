-- Stereo: left and right come back from side and left, right or mid (RFC 9639 section 4.2). Assumes nothing.
use Prim.Native.Nat.{ℕ, zero, suc, ◌+◌, ◌-◌, ◌*◌, ◌/◌, ◌%◌, ◌^◌, ◌≤◌, ◌<◌}
use native.Mathlib.Omega.{arith}
use mathlib.Core.Path.{◌≡◌, refl, ap, sym, ◌∙◌}
use borrow.Author.Tests.{lt-ltb}
use lib.IntN.{ℤ, pos, negsuc, neg_ℤ, ◌+ℤ◌, ◌-ℤ◌, ◌*ℤ◌, +ℤ_assoc, +ℤ_comm, +ℤ_idl, +ℤ_invr, +ℤ_invl, neg_ℤ-+ℤ, neg_ℤ-neg_ℤ, -ℤ-+ℤ_cancel}
use lib.Signed.{mag}
use Rattle.rfc9639.specs.Integers.{low, wrapped, shift_down}
use Rattle.rfc9639.specs.Stereo.{right_of, left_of, doubled, left_of_mid, right_of_mid}
use Rattle.rfc9639.specs.Write.{mid_of, side_of}
use Rattle.rfc9639.proofs.Widths.{Fits, fits-mono, fits_add, fits_sub, wrapped_same, low_add_of, pow_more}

-- ---- sums

minus_minus : (a b : ℤ) → a -ℤ (a -ℤ b) ≡ b
minus_minus a b =
    ap (λ z. a +ℤ z) (neg_ℤ-+ℤ a (neg_ℤ b) ∙ ap (λ z. neg_ℤ a +ℤ z) (neg_ℤ-neg_ℤ b)) ∙ sym (+ℤ_assoc a (neg_ℤ a) b) ∙ ap (λ z. z +ℤ b) (+ℤ_invr a) ∙ +ℤ_idl b

-- sum plus difference is twice the first, and sum minus difference is twice the second
sum_and_difference : (a b : ℤ) → (a +ℤ b) +ℤ (a -ℤ b) ≡ a +ℤ a
sum_and_difference a b =
    +ℤ_comm (a +ℤ b) (a -ℤ b) ∙ +ℤ_assoc a (neg_ℤ b) (a +ℤ b)
    ∙ ap (λ z. a +ℤ z) (ap (λ z. neg_ℤ b +ℤ z) (+ℤ_comm a b) ∙ sym (+ℤ_assoc (neg_ℤ b) b a) ∙ ap (λ z. z +ℤ a) (+ℤ_invl b) ∙ +ℤ_idl a)

sum-less_difference : (a b : ℤ) → (a +ℤ b) -ℤ (a -ℤ b) ≡ b +ℤ b
sum-less_difference a b =
    ap (λ z. z -ℤ (a -ℤ b)) (+ℤ_comm a b) ∙ +ℤ_assoc b a (neg_ℤ (a -ℤ b)) ∙ ap (λ z. b +ℤ z) (minus_minus a b)

-- ---- halves

half_twice : (a : ℤ) → shift_down 1 (a +ℤ a) ≡ a
unfolding shift_down
half_twice (pos n) = ap pos (omega arith)
half_twice (negsuc n) = ap negsuc (omega arith)

twice_half : (z : ℤ) → shift_down 1 z *ℤ pos 2 +ℤ pos (low 1 z) ≡ z
unfolding shift_down low
twice_half (pos n) = ap pos (omega arith)
twice_half (negsuc n) =
    let twice : suc (n / 2) * 2 ≡ suc (suc (n / 2 * 2)) = omega arith in
    rw twice (rw (lt-ltb (2 - suc (n % 2)) (suc (suc (n / 2 * 2))) (omega arith)) (ap negsuc (omega arith)))

-- a sum is odd exactly where the difference is
odd_neg : (b : ℤ) → low 1 (neg_ℤ b) ≡ low 1 b
unfolding low
odd_neg (pos zero) = refl
odd_neg (pos (suc n)) = omega arith
odd_neg (negsuc n) = omega arith

odd_difference : (a b : ℤ) → low 1 (a -ℤ b) ≡ low 1 (a +ℤ b)
odd_difference a b = low_add_of 1 a a (neg_ℤ b) b refl (odd_neg b)

-- ---- a pair of samples of w bits

module _ {w : ℕ} (h : 1 ≤ w) (most : w ≤ 24) {l r : ℤ} (f : Fits w l) (g : Fits w r) where
  -- what fits 32 bits wraps to itself
  in32 : {v : ℕ} {z : ℤ} → v ≤ 32 → Fits v z → wrapped 32 z ≡ z
  in32 {v} {z} k e = wrapped_same 32 z (omega arith) (fits-mono k e)

  pub right-back : right_of l (side_of l r) ≡ r
  unfolding right_of side_of
  right-back = ap (wrapped 32) (minus_minus l r) ∙ in32 (omega arith) g

  pub left_back : left_of (side_of l r) r ≡ l
  unfolding left_of side_of
  left_back = ap (wrapped 32) (-ℤ-+ℤ_cancel l r) ∙ in32 (omega arith) f

  doubled-back : doubled (mid_of l r) (side_of l r) ≡ l +ℤ r
  unfolding doubled mid_of side_of
  doubled-back =
      ap (wrapped 32) (ap (λ b. shift_down 1 (l +ℤ r) *ℤ pos 2 +ℤ pos b) (odd_difference l r) ∙ twice_half (l +ℤ r)) ∙ in32 (omega arith) (fits_add h f g)

  pub left_of_mid-back : left_of_mid (mid_of l r) (side_of l r) ≡ l
  unfolding left_of_mid side_of
  left_of_mid-back =
      ap (λ d. shift_down 1 (wrapped 32 (d +ℤ (l -ℤ r)))) doubled-back
      ∙ ap (shift_down 1) (ap (wrapped 32) (sum_and_difference l r) ∙ in32 (omega arith) (fits_add h f f)) ∙ half_twice l

  pub right_of_mid-back : right_of_mid (mid_of l r) (side_of l r) ≡ r
  unfolding right_of_mid side_of
  right_of_mid-back =
      ap (λ d. shift_down 1 (wrapped 32 (d -ℤ (l -ℤ r)))) doubled-back
      ∙ ap (shift_down 1) (ap (wrapped 32) (sum-less_difference l r) ∙ in32 (omega arith) (fits_add h g g)) ∙ half_twice r

  pub side-fits : Fits (w + 1) (side_of l r)
  unfolding side_of
  side-fits = fits_sub h f g

  pub mid-fits : Fits w (mid_of l r)
  unfolding mid_of shift_down
  mid-fits = halved (l +ℤ r) (fits_add h f g).fits
    where
      halved : (z : ℤ) → mag z < 2 ^ (w + 1 - 1) → Fits w (shift_down 1 z)
      halved (pos n) k = record { fits = omega (arith, pow_more w h) }
      halved (negsuc n) k = record { fits = omega (arith, pow_more w h) }
