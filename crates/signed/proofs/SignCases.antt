-- A number by its sign: its magnitude, its folded form and its bits. Assumes nothing.
use Prim.Native.Nat.{ℕ, suc, ◌+◌, ◌*◌, ◌^◌, ◌<◌}
use native.Mathlib.Omega.{arith}
use mathlib.Core.Path.{◌≡◌, refl, ap, sym, ◌∙◌}
use mathlib.Core.Bool.{true, false, true≢false}
use borrow.Author.Tests.{le-ltb}
use lib.Dec.{T, leb-zero}
use lib.IntN.{ℤ, pos, negsuc, nat_abs, ◌-ℤ◌}
use lib.Signed.{mag, le_z, non_neg}
use mir.Syntax.{w64}
use mir.Val.{Fits, SFits, to_z, of_z}
use mir.Facts.{to_z-of_z}
use Rattle.rfc9639.specs.SubframeCoding.{fold}

nonnegative_is_pos : (z : ℤ) → le_z (pos 0) z ≡ true → z ≡ pos (mag z)
nonnegative_is_pos (pos n) e = refl
nonnegative_is_pos (negsuc n) e = absurd (true≢false (sym e))

negative_is_negsuc : (z : ℤ) → le_z (pos 0) z ≡ false → z ≡ negsuc (mag z)
negative_is_negsuc (pos n) e = absurd (true≢false (sym (leb-zero n) ∙ e))
negative_is_negsuc (negsuc n) e = refl

-- `-1 - z`
complement_negsuc : (n : ℕ) → negsuc 0 -ℤ negsuc n ≡ pos n
complement_negsuc n = rw (le-ltb (suc n) 1 (omega arith)) (ap pos (omega arith))

-- a number as the machine passes it: by its bits
abbrev pub bits64 : ℤ → ℤ
bits64 z = to_z w64 (of_z w64 z)

module _ {z : ℤ} (f : SFits w64 z) where
  module _ {m : ℕ} (e : m ≡ mag (bits64 z)) where
    pub magnitude_is : m ≡ mag z
    magnitude_is = e ∙ ap mag (to_z-of_z f)

    pub magnitude-below : m < 2 ^ 63
    magnitude-below = rw magnitude_is f.sfits

  module _ (e : le_z (pos 0) (bits64 z) ≡ true) where
    is_pos : bits64 z ≡ pos (mag z)
    is_pos = to_z-of_z f ∙ nonnegative_is_pos z (rw (to_z-of_z f) at e)

    pub cast_pos : T (non_neg (bits64 z)) × Fits w64 (nat_abs (bits64 z))
    cast_pos = rw is_pos (tt, record { fits = omega (arith, f.sfits) })

    pub cast_pos_is : nat_abs (bits64 z) ≡ mag z
    cast_pos_is = ap nat_abs is_pos

    module _ {m : ℕ} (d : m ≡ mag (bits64 z)) where
      pub fold-pos : m * 2 ≡ fold z
      unfolding fold
      fold-pos = ap (λ n. n * 2) (magnitude_is d) ∙ ap fold (sym is_pos ∙ to_z-of_z f)

  module _ (e : le_z (pos 0) (bits64 z) ≡ false) where
    is_negsuc : bits64 z ≡ negsuc (mag z)
    is_negsuc = to_z-of_z f ∙ negative_is_negsuc z (rw (to_z-of_z f) at e)

    complement_is : negsuc 0 -ℤ bits64 z ≡ pos (mag z)
    complement_is = ap (λ (y : ℤ). negsuc 0 -ℤ y) is_negsuc ∙ complement_negsuc (mag z)

    pub complement_fits : SFits w64 (negsuc 0 -ℤ bits64 z)
    complement_fits = rw complement_is (record { sfits = f.sfits })

    complement_bits : bits64 (negsuc 0 -ℤ bits64 z) ≡ pos (mag z)
    complement_bits = to_z-of_z complement_fits ∙ complement_is

    pub cast_complement : T (non_neg (bits64 (negsuc 0 -ℤ bits64 z))) × Fits w64 (nat_abs (bits64 (negsuc 0 -ℤ bits64 z)))
    cast_complement = rw complement_bits (tt, record { fits = omega (arith, f.sfits) })

    pub cast_complement_is : nat_abs (bits64 (negsuc 0 -ℤ bits64 z)) ≡ mag z
    cast_complement_is = ap nat_abs complement_bits

    module _ {m : ℕ} (d : m ≡ mag (bits64 z)) where
      pub fold-negsuc : m * 2 + 1 ≡ fold z
      unfolding fold
      fold-negsuc = ap (λ n. n * 2 + 1) (magnitude_is d) ∙ ap fold (sym is_negsuc ∙ to_z-of_z f)
