-- Absolute values: of sums, products and shifts, and of numbers that fit a width. Assumes nothing.
use Prim.Native.Nat.{ℕ, zero, suc, ◌+◌, ◌-◌, ◌*◌, ◌^◌, ◌≤◌, ◌<◌}
use native.Mathlib.Nat.{le_refl, le_of_lt, lt_of_le_of_lt, div-le_self}
use native.Mathlib.Omega.{arith}
use mathlib.Core.Path.{◌≡◌, refl}
use mathlib.Core.Bool.{Bool, true, false, cond}
use borrow.Author.Tests.{ltb-true}
use lib.Dec.{ltb}
use lib.IntN.{ℤ, pos, negsuc, nat_abs, neg_ℤ, sub_ℕ, ◌+ℤ◌, ◌*ℤ◌}
use lib.Signed.{mag}
use Rattle.rfc9639.specs.Integers.{shift_down}
use Rattle.rfc9639.proofs.Widths.{Fits}

mag_abs : (z : ℤ) → mag z ≤ nat_abs z
mag_abs (pos n) = le_refl n
mag_abs (negsuc n) = omega arith

pub fits_of_abs : (w : ℕ) (z : ℤ) → nat_abs z < 2 ^ (w - 1) → Fits w z
fits_of_abs w z h = record { fits = lt_of_le_of_lt (mag_abs z) h }

pub abs_of_fits : {w : ℕ} {z : ℤ} → Fits w z → nat_abs z ≤ 2 ^ (w - 1)
abs_of_fits {w} {z = pos n} h = le_of_lt h.fits
abs_of_fits {w} {z = negsuc n} h = h.fits

abs_sub : (a b : ℕ) → nat_abs (sub_ℕ a b) ≤ a + b
abs_sub a b = go (ltb a b) refl
  where
    go : (t : Bool) → ltb a b ≡ t → nat_abs (cond t (negsuc (b - suc a)) (pos (a - b))) ≤ a + b
    go true e = let h = ltb-true a b e in omega arith
    go false e = omega arith

pub abs_add : (a b : ℤ) → nat_abs (a +ℤ b) ≤ nat_abs a + nat_abs b
abs_add (pos a) (pos b) = le_refl (a + b)
abs_add (pos a) (negsuc b) = abs_sub a (suc b)
abs_add (negsuc a) (pos b) = omega (arith, abs_sub b (suc a))
abs_add (negsuc a) (negsuc b) = omega arith

pub abs_neg : (z : ℤ) → nat_abs (neg_ℤ z) ≡ nat_abs z
abs_neg (pos zero) = refl
abs_neg (pos (suc n)) = refl
abs_neg (negsuc n) = refl

pub abs_mul : (a b : ℤ) → nat_abs (a *ℤ b) ≡ nat_abs a * nat_abs b
abs_mul (pos a) (pos b) = refl
abs_mul (pos a) (negsuc b) = abs_neg (pos (a * suc b))
abs_mul (negsuc a) (pos b) = abs_neg (pos (suc a * b))
abs_mul (negsuc a) (negsuc b) = refl

pub abs_shift_down : (k : ℕ) (z : ℤ) → nat_abs (shift_down k z) ≤ nat_abs z
unfolding shift_down
abs_shift_down k (pos n) = div-le_self n (2 ^ k)
abs_shift_down k (negsuc n) = omega (arith, div-le_self n (2 ^ k))
