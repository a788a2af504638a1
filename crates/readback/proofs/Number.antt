-- The coded number is read back (RFC 9639 section 9.1.5), for every count of follower bytes. Assumes nothing.
use Prim.Native.Nat.{ℕ, zero, suc, ◌+◌, ◌*◌, ◌/◌, ◌%◌, ◌^◌, ◌<◌}
use native.Mathlib.Nat.{div-add-mod', mod-lt, mod-eq_of_lt, mul-add-mod_self_right, mul-le-mul_right, pow-suc, one-le-pow}
use native.Mathlib.Omega.{arith}
use mathlib.Core.Path.{◌≡◌, ap, ◌∙◌}
use mathlib.Core.Bool.{Bool, true, false, cond}
use mathlib.Core.List.{List, [], ◌∷◌}
use borrow.Author.Tests.{ltb-true, lt-ltb, eq-eqb}
use lib.Dec.{ltb}
use Rattle.reading.specs.Readers.{Ask, done, stop}
use Rattle.reading.specs.Bytes.{bits_of_bytes}
use Rattle.reading.proofs.NumbersAsBits.{bits_of_bytes_cons}
use Rattle.rfc9639.specs.Number.{with_followers, number_from, coded_number}
use Rattle.rfc9639.specs.Write.{followers, number_bytes}
use Rattle.reading.proofs.TestChains.{tested, by_test, Taken, value_at, rung}
use Rattle.readback.proofs.SpelledValues.{Spells, spells_as, spells_value, spells_by, spells_bits, spells_done, spells_bind, spells_checked}

-- one more digit, in any base
digit : (b m acc v : ℕ) → 0 < b → 0 < m → (acc * b + v / m % b) * m + v % m ≡ acc * (m * b) + v % (m * b)
digit b m acc v hb hm = omega (arith, split)
  where
    low : ℕ
    low = v / m % b * m + v % m

    whole : v ≡ v / m / b * (m * b) + low
    whole = omega (arith, div-add-mod' v m, ap (λ q. q * m) (div-add-mod' (v / m) b))

    below : low < m * b
    below = omega (arith, mod-lt v hm, mul-le-mul_right m (mod-lt (v / m) hb))

    split : v % (m * b) ≡ low
    split = ap (λ x. x % (m * b)) whole ∙ mul-add-mod_self_right (v / m / b) (m * b) low ∙ mod-eq_of_lt below

spells_with_followers : (n acc v : ℕ) {before : List ℕ} → Spells before (with_followers n acc) (bits_of_bytes (followers n v)) (acc * 64 ^ n + v % 64 ^ n)
unfolding with_followers followers bits_of_bytes
spells_with_followers zero acc v = spells_value (omega arith) spells_done
spells_with_followers (suc n) acc v =
    let b : ℕ = 0x80 + v / 64 ^ n % 64 in
    spells_as (bits_of_bytes_cons b (followers n v))
    (spells_bind _ (spells_bits 8 {v = b} (omega arith))
    (spells_checked 5 _ (eq-eqb (b / 64) 2 (omega arith))
    (spells_value
    (ap (λ d. (acc * 64 + d) * 64 ^ n + v % 64 ^ n) (let e : b % 64 ≡ v / 64 ^ n % 64 = omega arith in e)
    ∙ digit 64 (64 ^ n) acc v (omega arith) (one-le-pow n 64 (omega arith)) ∙ rw pow-suc)
    (spells_with_followers n (acc * 64 + b % 64) v))))

-- a first byte b that announces n followers and holds the number's high part acc
spells_form : (n b acc v : ℕ) {before : List ℕ} → number_from b ≡ with_followers n acc → b < 256 → acc * 64 ^ n + v % 64 ^ n ≡ v
    → Spells before coded_number (bits_of_bytes (b ∷ followers n v)) v
unfolding coded_number
spells_form n b acc v first h e =
    spells_as (bits_of_bytes_cons b (followers n v)) (spells_bind _ (spells_bits 8 h) (spells_by first (spells_value e (spells_with_followers n acc v))))

-- the definition's table of first bytes
abbrev firsts : ℕ → List (Bool × Ask ℕ)
firsts b =
    (ltb b 0x80, done b)
    ∷ (ltb b 0xc0, stop 5)
    ∷ (ltb b 0xe0, with_followers 1 (b % 32))
    ∷ (ltb b 0xf0, with_followers 2 (b % 16))
    ∷ (ltb b 0xf8, with_followers 3 (b % 8))
    ∷ (ltb b 0xfc, with_followers 4 (b % 4))
    ∷ (ltb b 0xfe, with_followers 5 (b % 2))
    ∷ (ltb b 0xff, with_followers 6 0)
    ∷ []

module _ (v : ℕ) {before : List ℕ} where
  alone : v < 0x80 → Spells before coded_number (bits_of_bytes (v ∷ [])) v
  unfolding number_from with_followers followers
  alone h = spells_form 0 v v v (rung 0 (firsts v) _ (lt-ltb v 0x80 h)) (omega arith) (omega arith)

  several : (n b : ℕ) → Taken (suc n) (firsts b) → value_at (suc n) (firsts b) (stop 5) ≡ with_followers n (v / 64 ^ n) → b < 256
      → Spells before coded_number (bits_of_bytes (b ∷ followers n v)) v
  unfolding number_from
  several n b t e h = spells_form n b (v / 64 ^ n) v (rung (suc n) (firsts b) (stop 5) t ∙ e) h (div-add-mod' v (64 ^ n))

  test : (b : Bool) (x y : List ℕ) → (b ≡ true → Spells before coded_number (bits_of_bytes x) v) → (b ≡ false → Spells before coded_number (bits_of_bytes y) v)
      → Spells before coded_number (bits_of_bytes (cond b x y)) v
  test = by_test (λ bs. Spells before coded_number (bits_of_bytes bs) v)

  pub spells_number : v < 2 ^ 36 → Spells before coded_number (bits_of_bytes (number_bytes v)) v
  unfolding number_bytes
  spells_number h =
      test (ltb v 0x80) _ _ (λ e. alone (ltb-true v 0x80 e))
      (λ _. test (ltb v 0x800) _ _ (λ e. several 1 (0xc0 + v / 64 ^ 1) (omega tested) (ap (with_followers 1) (omega tested)) (omega tested))
      (λ _. test (ltb v 0x1_0000) _ _ (λ e. several 2 (0xe0 + v / 64 ^ 2) (omega tested) (ap (with_followers 2) (omega tested)) (omega tested))
      (λ _. test (ltb v 0x20_0000) _ _ (λ e. several 3 (0xf0 + v / 64 ^ 3) (omega tested) (ap (with_followers 3) (omega tested)) (omega tested))
      (λ _. test (ltb v 0x400_0000) _ _ (λ e. several 4 (0xf8 + v / 64 ^ 4) (omega tested) (ap (with_followers 4) (omega tested)) (omega tested))
      (λ _. test (ltb v 0x8000_0000) _ _ (λ e. several 5 (0xfc + v / 64 ^ 5) (omega tested) (ap (with_followers 5) (omega tested)) (omega tested))
      (λ _. several 6 0xfe (omega tested) (ap (with_followers 6) (omega arith)) (omega arith)))))))
