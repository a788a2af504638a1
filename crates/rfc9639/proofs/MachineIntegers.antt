-- Machine integers: the machine's signed operations in the definition's words, for every width. Assumes nothing.
use Prim.Native.Nat.{ℕ, zero, suc, ◌+◌, ◌-◌, ◌*◌, ◌/◌, ◌%◌, ◌^◌, ◌<◌}
use native.Mathlib.Nat.{zero-add, mod-lt, mod_self, mul-mod_left, mul_right_comm, suc-mul, add-mul, mul-lt-mul_of_pos_right, mul-le-mul_right}
use native.Mathlib.Omega.{arith}
use mathlib.Core.Path.{◌≡◌, refl, ap, ap₂, ◌∙◌, subst}
use mathlib.Core.Bool.{Bool, true, false}
use borrow.Author.Tests.{ltb-true, ltb-false, lt-ltb, le-ltb}
use lib.Arith.{digits_div}
use lib.Dec.{ltb}
use lib.IntN.{ℤ, pos, negsuc, ◌-ℤ◌}
use lib.Pow.{pow_pos, pow-add, mod-pow-add, shl-shr}
use lib.Signed.{shr_z}
use mir.Syntax.{Width, w32, w64}
use mir.Facts.{to_z_pos, to_z-of_z, sfits_widen}
use mir.Val.{SFits, bits, hbits, to_z, of_z, sel}
use mir.ValLaws.{pow-bits}
use Rattle.rfc9639.specs.Integers.{signed, wrapped, shift_down}
use Rattle.rfc9639.proofs.Widths as Wide
use Rattle.rfc9639.proofs.Widths.{Congruent, low_of_congruent, congruent_narrow, of_sfits, to_sfits, shift_down-fits}

-- a word of w bits, as a signed value
pub to_z-signed : (w : Width) (n : ℕ) → to_z w n ≡ signed (bits w) n
unfolding signed
to_z-signed w n = go (ltb n (2 ^ hbits w)) refl
  where
    go : (t : Bool) → ltb n (2 ^ hbits w) ≡ t → sel t (pos n) (negsuc (2 ^ bits w - suc n)) ≡ signed (bits w) n
    go true e = rw (lt-ltb (n * 2) (2 ^ bits w) (omega (arith, ltb-true n (2 ^ hbits w) e, pow-bits w)))
    go false e = rw (le-ltb (n * 2) (2 ^ bits w) (omega (arith, ltb-false n (2 ^ hbits w) e, pow-bits w)))

-- the word of a signed value has its bits
pub of_z_congruent : {w : Width} {z : ℤ} → SFits w z → Congruent (bits w) z (of_z w z)
of_z_congruent {w} {z = pos n} h = record { modulo = refl }
of_z_congruent {w} {z = negsuc n} h = record {
  modulo =
      ap (λ x. x % 2 ^ bits w) (let e : 2 ^ bits w - suc n + suc n ≡ 2 ^ bits w = omega (arith, h.sfits, pow-bits w) in e) ∙ mod_self (2 ^ bits w);
}

pub shift_shr : (k : ℕ) (z : ℤ) → shr_z z (2 ^ k) ≡ shift_down k z
unfolding shift_down
shift_shr k (pos n) = refl
shift_shr k (negsuc n) = refl

-- a signed shift down
pub shifted : {w : Width} {z : ℤ} → SFits w z → (k : ℕ) → to_z w (of_z w (shr_z (to_z w (of_z w z)) (2 ^ k))) ≡ shift_down k z
shifted {w} {z} f k = rw (to_z-of_z f, shift_shr k z) (to_z-of_z (to_sfits (shift_down-fits (of_sfits f) k)))

-- Sign extension by two shifts, up by k and down by k: the bits above the low w become copies of the sign bit.
module _ (w k : ℕ) where
  up : (b : ℕ) → (b * 2 ^ k) % 2 ^ (w + k) ≡ b % 2 ^ w * 2 ^ k
  up b =
      mod-pow-add (b * 2 ^ k) w k ∙ ap₂ (λ x y. x % 2 ^ w * 2 ^ k + y) (shl-shr b k) (mul-mod_left b (2 ^ k))
      ∙ (let e : b % 2 ^ w * 2 ^ k + 0 ≡ b % 2 ^ w * 2 ^ k = omega arith in e)

  down : (c : ℕ) → c < 2 ^ w → shift_down k (signed (w + k) (c * 2 ^ k)) ≡ signed w c
  unfolding signed shift_down
  down c h = go (ltb (c * 2) (2 ^ w)) refl
    where
      doubled : c * 2 ^ k * 2 ≡ c * 2 * 2 ^ k
      doubled = mul_right_comm c (2 ^ k) 2

      go : (t : Bool) → ltb (c * 2) (2 ^ w) ≡ t → shift_down k (signed (w + k) (c * 2 ^ k)) ≡ signed w c
      go true e =
          let l = mul-lt-mul_of_pos_right (ltb-true (c * 2) (2 ^ w) e) (pow_pos k) in
          rw (lt-ltb (c * 2 ^ k * 2) (2 ^ (w + k)) (omega (arith, l, doubled, pow-add 2 w k)), e) (ap pos (shl-shr c k))
      go false e =
          let l = mul-le-mul_right (2 ^ k) (ltb-false (c * 2) (2 ^ w) e) in
          rw (le-ltb (c * 2 ^ k * 2) (2 ^ (w + k)) (omega (arith, l, doubled, pow-add 2 w k)), e)
          (ap negsuc (ap (λ x. x / 2 ^ k) rest ∙ digits_div (2 ^ w - suc c) {m = 2 ^ k} {r = 2 ^ k - 1} (omega (arith, pow_pos k))))
        where
          whole : 2 ^ (w + k) ≡ (2 ^ w - suc c) * 2 ^ k + (c * 2 ^ k + 2 ^ k)
          whole =
              pow-add 2 w k ∙ ap (λ x. x * 2 ^ k) (let f : 2 ^ w ≡ 2 ^ w - suc c + suc c = omega arith in f)
              ∙ add-mul (2 ^ w - suc c) (suc c) (2 ^ k) ∙ ap (λ x. (2 ^ w - suc c) * 2 ^ k + x) (suc-mul c (2 ^ k))

          rest : 2 ^ (w + k) - suc (c * 2 ^ k) ≡ (2 ^ w - suc c) * 2 ^ k + (2 ^ k - 1)
          rest = omega (arith, whole, pow_pos k)

  pub up_and_down : (W b : ℕ) → w + k ≡ W → shift_down k (signed W ((b * 2 ^ k) % 2 ^ W)) ≡ signed w (b % 2 ^ w)
  up_and_down W b e =
      subst (λ n. shift_down k (signed n ((b * 2 ^ k) % 2 ^ n)) ≡ signed w (b % 2 ^ w)) e
      (ap (λ x. shift_down k (signed (w + k) x)) (up b) ∙ down (b % 2 ^ w) (mod-lt b (pow_pos w)))

-- the low 32 bits of a 64-bit number, signed
pub up_and_down_32 : {z : ℤ} → SFits w64 z → shr_z (to_z w64 ((of_z w64 z * 2 ^ 32) % 2 ^ 64)) (2 ^ 32) ≡ wrapped 32 z
unfolding wrapped
up_and_down_32 {z} f =
    shift_shr 32 (to_z w64 ((of_z w64 z * 2 ^ 32) % 2 ^ 64)) ∙ ap (shift_down 32) (to_z-signed w64 ((of_z w64 z * 2 ^ 32) % 2 ^ 64))
    ∙ up_and_down 32 32 64 (of_z w64 z) refl ∙ ap (signed 32) (low_of_congruent 32 (congruent_narrow 32 32 (of_z_congruent f)))

-- ---- `-1 - m`

minus_one : (m : ℕ) → negsuc 0 -ℤ pos m ≡ negsuc m
minus_one zero = refl
minus_one (suc m) = ap (λ k. negsuc (suc k)) (zero-add m)

module _ (w : Width) (m : ℕ) (h : m < 2 ^ hbits w) where
  minus : negsuc 0 -ℤ to_z w m ≡ negsuc m
  minus = ap (λ (z : ℤ). negsuc 0 -ℤ z) (to_z_pos w h) ∙ minus_one m

  pub minus-fits : SFits w (negsuc 0 -ℤ to_z w m)
  minus-fits = rw minus (record { sfits = h })

  pub minus_is : to_z w (of_z w (negsuc 0 -ℤ to_z w m)) ≡ negsuc m
  minus_is = to_z-of_z minus-fits ∙ minus

-- ---- an i32 as an i64

module _ {z : ℤ} (h : SFits w32 z) where
  pub widen_fits : SFits w64 (to_z w32 (of_z w32 z))
  widen_fits = rw (to_z-of_z h) (sfits_widen tt h)

  pub widened : to_z w64 (of_z w64 (to_z w32 (of_z w32 z))) ≡ z
  widened = to_z-of_z widen_fits ∙ to_z-of_z h

-- an operation on two i32, carried out at 64 bits
module _ {a b : ℤ} (f : SFits w32 a) (g : SFits w32 b) (op : ℤ → ℤ → ℤ) (h : Wide.Fits 33 (op a b)) where
  pub combined-fits : SFits w64 (op (to_z w64 (of_z w64 (to_z w32 (of_z w32 a)))) (to_z w64 (of_z w64 (to_z w32 (of_z w32 b)))))
  combined-fits = rw (widened f, widened g) (to_sfits (Wide.fits-mono {w = 33} {w' = 64} (omega arith) h))

  pub combined : to_z w64 (of_z w64 (op (to_z w64 (of_z w64 (to_z w32 (of_z w32 a)))) (to_z w64 (of_z w64 (to_z w32 (of_z w32 b)))))) ≡ op a b
  combined = to_z-of_z combined-fits ∙ ap₂ op (widened f) (widened g)
