-- Sign extension and the low bits at each width. Assumes nothing.
use Prim.Native.Nat.{ℕ, ◌*◌, ◌%◌, ◌^◌, ◌+◌, ◌≤◌, ◌<◌}
use native.Mathlib.Nat.{mod-eq_of_lt, mod-one}
use native.Mathlib.Omega.{arith}
use mathlib.Core.Path.{◌≡◌, refl, ap, sym, ◌∙◌}
use mathlib.Core.Bool.{Bool, true, false, cond}
use borrow.Author.Tests.{leb-true, leb-false, le-leb, lt-leb}
use lib.Dec.{leb}
use lib.IntN.{ℤ, pos}
use lib.Pow.{pow_pos}
use mir.Syntax.{w64}
use mir.Val.{SFits, to_z, of_z}
use mir.Facts.{to_z-of_z}
use Rattle.reading.proofs.Bits.{one_shifted}
use Rattle.rfc9639.specs.Integers.{signed, low, wrapped, shift_down}
use Rattle.rfc9639.proofs.Widths.{low-low, low_of_congruent}
use Rattle.signed.specs.Extend.{sign_extend, low_bits}
use Rattle.rfc9639.proofs.MachineIntegers.{up_and_down, of_z_congruent}

module _ (w v : ℕ) where
  pub extend-low : w ≤ 63 → sign_extend w v ≡ signed w (v % 2 ^ w)
  unfolding sign_extend wrapped low
  extend-low h = rw (le-leb w 63 h)

  pub extend-all : 64 ≤ w → v < 2 ^ 64 → sign_extend w v ≡ signed 64 v
  unfolding sign_extend wrapped low
  extend-all h l = rw (lt-leb w 63 h) (ap (signed 64) (mod-eq_of_lt l))

  -- a number that fits w bits extends to its signed value
  pub extend-signed : w ≤ 64 → v < 2 ^ w → sign_extend w v ≡ signed w v
  extend-signed h l = go (leb w 63) refl
    where
      go : (t : Bool) → leb w 63 ≡ t → sign_extend w v ≡ signed w v
      go true e = extend-low (leb-true w 63 e) ∙ ap (signed w) (mod-eq_of_lt l)
      go false e =
          let f : w ≡ 64 = omega (arith, leb-false w 63 e) in
          extend-all (omega arith) (rw f at l) ∙ ap (λ n. signed n v) (sym f)

-- a width of 0 gives 0
pub extend-zero_width : (v : ℕ) → sign_extend 0 v ≡ pos 0
unfolding signed
extend-zero_width v = extend-low 0 v (omega arith) ∙ ap (signed 0) (mod-one v)

-- a shift up and back down extends the sign
pub extend-shifts : (w k v : ℕ) → w ≤ 63 → w + k ≡ 64 → shift_down k (signed 64 ((v * 2 ^ k) % 2 ^ 64)) ≡ sign_extend w v
extend-shifts w k v h e = up_and_down w k 64 v e ∙ sym (extend-low w v h)

-- ---- the low bits: up to a width of 64 the limit of 64 plays no part

pub low_bits-low : (w : ℕ) (z : ℤ) → w ≤ 64 → low_bits w z ≡ low w z
unfolding low_bits
low_bits-low w z h = go (leb w 63) refl
  where
    go : (t : Bool) → leb w 63 ≡ t → cond t (low w z) (low 64 z) ≡ low w z
    go true e = refl
    go false e = ap (λ n. low n z) (let f : 64 ≡ w = omega (arith, leb-false w 63 e) in f)

-- as the function computes them, from all 64 bits. The machine passes a signed value as its bits.

module _ (w : ℕ) {z : ℤ} (f : SFits w64 z) {r : ℕ} (e : r ≡ of_z w64 (to_z w64 (of_z w64 z))) (l : r < 2 ^ 64) where
  all_bits-low : r ≡ low 64 z
  all_bits-low = sym (mod-eq_of_lt l) ∙ ap (λ n. n % 2 ^ 64) (e ∙ ap (of_z w64) (to_z-of_z f)) ∙ low_of_congruent 64 (of_z_congruent f)

  pub low_bits-from_64 : 64 ≤ w → r ≡ low_bits w z
  unfolding low_bits
  low_bits-from_64 h = rw (lt-leb w 63 h) all_bits-low

  module _ (h : w < 64) where
    pub divisor_positive : 0 < 1 * 2 ^ w % 2 ^ 64
    divisor_positive = rw (one_shifted w h) (pow_pos w)

    pub low_bits-below_64 : r % (1 * 2 ^ w % 2 ^ 64) ≡ low_bits w z
    unfolding low_bits
    low_bits-below_64 = rw (one_shifted w h, le-leb w 63 (omega arith)) (ap (λ n. n % 2 ^ w) all_bits-low ∙ low-low w 64 (omega arith) z)
