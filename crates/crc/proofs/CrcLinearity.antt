-- Check sums of any width and polynomial: of a concatenation, and of n bits taken at once. Assumes nothing.
use Prim.Native.Nat.{ℕ, zero, suc, ◌+◌, ◌*◌, ◌-◌, ◌/◌, ◌%◌, ◌^◌, ◌≤◌, ◌<◌}
use native.Mathlib.Numerals.{one-add}
use native.Mathlib.Omega.{arith}
use native.Mathlib.Nat.{mod-lt, mod-eq_of_lt, add-mod, mul-one, mul_assoc, pow-suc}
use mathlib.Core.Path.{◌≡◌, refl, ap, ap₂, sym, ◌∙◌}
use mathlib.Core.List.{List, [], ◌∷◌, ◌++◌}
use lib.Bits.{bit_xor, xor_lt, xor_mod, xor_shr, xor_self, xor_zero_l, xor_zero_r}
use lib.Dec.{eqb}
use lib.Pow.{pow_pos, field, shr-shr, shl-shr, shr_lt}
use Rattle.std.specs.Prelude.{if◌then◌else◌}
use Rattle.reading.specs.Bytes.{bits_of_byte, bits_of_bytes}
use Rattle.reading.specs.NumbersAsBits.{bits_of}
use Rattle.rfc9639.specs.CheckSums.{crc_bit, crc_bits}
use Rattle.rfc9639.proofs.CheckSums.{bit_below}
use Rattle.crc.proofs.XorLaws.{xor_sum, xor_bit, xor_times_two, xor_interchange, xor_cancel}

-- ---- a concatenation

pub crc_append : (w poly r : ℕ) (s t : List ℕ) → crc_bits w poly r (s ++ t) ≡ crc_bits w poly (crc_bits w poly r s) t
unfolding crc_bits
crc_append w poly r [] t = refl
crc_append w poly r (b ∷ s) t = crc_append w poly (crc_bit w poly r b) s t

pub crc_cons : (w poly r b : ℕ) (s : List ℕ)
    → crc_bits w poly r (bits_of_bytes (b ∷ s)) ≡ crc_bits w poly (crc_bits w poly r (bits_of_byte b)) (bits_of_bytes s)
unfolding bits_of_bytes
crc_cons w poly r b s = crc_append w poly r (bits_of_byte b) (bits_of_bytes s)

-- ---- one more bit, as an XOR

-- the polynomial, or zero
unfoldable fed : ℕ → ℕ → ℕ
fed zero poly = zero
fed (suc d) poly = poly

fed_if : (d a poly : ℕ) → d < 2 → (if eqb d 1 then bit_xor a poly else a) ≡ bit_xor a (fed d poly)
unfolding fed
fed_if zero a poly h = sym (xor_zero_r a)
fed_if (suc zero) a poly h = refl
fed_if (suc (suc d)) a poly h = absurd (omega arith)

fed_xor : (d e poly : ℕ) → d < 2 → e < 2 → fed (bit_xor d e) poly ≡ bit_xor (fed d poly) (fed e poly)
unfolding fed
fed_xor zero e poly h k = refl
fed_xor (suc zero) zero poly h k = sym (xor_zero_r poly)
fed_xor (suc zero) (suc zero) poly h k = sym (xor_self poly)
fed_xor (suc zero) (suc (suc e)) poly h k = absurd (omega arith)
fed_xor (suc (suc d)) e poly h k = absurd (omega arith)

-- the width is v + 1, as every width above 0 is
module _ (v poly : ℕ) (hp : poly < 2 ^ suc v) where
  top_below : (r : ℕ) → r < 2 ^ suc v → r / 2 ^ v < 2
  top_below r h = shr_lt 1 v (rw (one-add v) h)

  bit_is : (r b : ℕ) → r < 2 ^ suc v → b < 2 → crc_bit (suc v) poly r b ≡ bit_xor (r * 2 % 2 ^ suc v) (fed (bit_xor (r / 2 ^ v) b) poly)
  unfolding crc_bit
  bit_is r b h k =
      let e : suc v - 1 ≡ v = omega arith in
      ap (λ (n : ℕ). if eqb ((r / 2 ^ n + b) % 2) 1 then bit_xor (r * 2 % 2 ^ suc v) poly else r * 2 % 2 ^ suc v) e
      ∙ fed_if ((r / 2 ^ v + b) % 2) (r * 2 % 2 ^ suc v) poly (omega arith)
      ∙ ap (λ (d : ℕ). bit_xor (r * 2 % 2 ^ suc v) (fed d poly)) (sym (xor_sum (r / 2 ^ v) b (top_below r h) k))

  -- ---- check sums are linear: the XOR of two inputs has the XOR of their sums

  bit_xor_lem : (r q b c : ℕ) → r < 2 ^ suc v → q < 2 ^ suc v → b < 2 → c < 2
      → crc_bit (suc v) poly (bit_xor r q) (bit_xor b c) ≡ bit_xor (crc_bit (suc v) poly r b) (crc_bit (suc v) poly q c)
  bit_xor_lem r q b c hr hq hb hc =
      bit_is (bit_xor r q) (bit_xor b c) (xor_lt (suc v) r q hr hq) (xor_lt 1 b c hb hc)
      ∙ ap₂ bit_xor (ap (λ (x : ℕ). x % 2 ^ suc v) (xor_times_two r q) ∙ xor_mod (r * 2) (q * 2) (suc v))
      (ap (λ (x : ℕ). fed x poly) (ap (λ (x : ℕ). bit_xor x (bit_xor b c)) (xor_shr r q v) ∙ xor_interchange (r / 2 ^ v) (q / 2 ^ v) b c)
      ∙ fed_xor (bit_xor (r / 2 ^ v) b) (bit_xor (q / 2 ^ v) c) poly (xor_lt 1 (r / 2 ^ v) b (top_below r hr) hb)
      (xor_lt 1 (q / 2 ^ v) c (top_below q hq) hc))
      ∙ xor_interchange (r * 2 % 2 ^ suc v) (q * 2 % 2 ^ suc v) (fed (bit_xor (r / 2 ^ v) b) poly) (fed (bit_xor (q / 2 ^ v) c) poly)
      ∙ sym (ap₂ bit_xor (bit_is r b hr hb) (bit_is q c hq hc))

  crc_xor : (n r q x y : ℕ) → r < 2 ^ suc v → q < 2 ^ suc v
      → crc_bits (suc v) poly (bit_xor r q) (bits_of n (bit_xor x y)) ≡ bit_xor (crc_bits (suc v) poly r (bits_of n x)) (crc_bits (suc v) poly q (bits_of n y))
  unfolding crc_bits bits_of
  crc_xor zero r q x y hr hq = refl
  crc_xor (suc n) r q x y hr hq =
      ap (λ (s : ℕ). crc_bits (suc v) poly s (bits_of n (bit_xor x y)))
      (ap (crc_bit (suc v) poly (bit_xor r q)) (xor_bit x y n) ∙ bit_xor_lem r q (x / 2 ^ n % 2) (y / 2 ^ n % 2) hr hq (omega arith) (omega arith))
      ∙ crc_xor n (crc_bit (suc v) poly r (x / 2 ^ n % 2)) (crc_bit (suc v) poly q (y / 2 ^ n % 2)) x y (bit_below (suc v) poly hp r (x / 2 ^ n % 2))
      (bit_below (suc v) poly hp q (y / 2 ^ n % 2))

  -- ---- a sum that is fed its own upper bits only shifts: the polynomial never enters

  bit-own : (r : ℕ) → r < 2 ^ suc v → crc_bit (suc v) poly r (r / 2 ^ v) ≡ r * 2 % 2 ^ suc v
  unfolding fed
  bit-own r h =
      bit_is r (r / 2 ^ v) h (top_below r h) ∙ ap (λ (d : ℕ). bit_xor (r * 2 % 2 ^ suc v) (fed d poly)) (xor_self (r / 2 ^ v)) ∙ xor_zero_r (r * 2 % 2 ^ suc v)

  -- r after k shifts: its top bit, and the next shift
  shifted_top : (r k j : ℕ) → v ≡ k + j → r * 2 ^ k % 2 ^ suc v / 2 ^ v ≡ r / 2 ^ j % 2
  shifted_top r k j e =
      ap (λ (n : ℕ). r * 2 ^ k % 2 ^ n / 2 ^ v) (sym (one-add v)) ∙ field (r * 2 ^ k) 1 v
      ∙ ap (λ (x : ℕ). x % 2) (ap (λ (n : ℕ). r * 2 ^ k / 2 ^ n) e ∙ sym (shr-shr (r * 2 ^ k) k j) ∙ ap (λ (x : ℕ). x / 2 ^ j) (shl-shr r k))

  shifted_on : (r k : ℕ) → r * 2 ^ k % 2 ^ suc v * 2 % 2 ^ suc v ≡ r * 2 ^ suc k % 2 ^ suc v
  shifted_on r k =
      let x = r * 2 ^ k in
      let m = 2 ^ suc v in
      let a : x % m * 2 ≡ x % m + x % m = omega arith in
      let b : x + x ≡ x * 2 = omega arith in
      ap (λ (y : ℕ). y % m) a ∙ sym (add-mod x x m) ∙ ap (λ (y : ℕ). y % m) (b ∙ mul_assoc r (2 ^ k) 2 ∙ ap (λ (y : ℕ). r * y) (sym (pow-suc 2 k)))

  crc_own : (n k m r : ℕ) → suc v ≡ k + (m + n)
      → crc_bits (suc v) poly (r * 2 ^ k % 2 ^ suc v) (bits_of n (r / 2 ^ m)) ≡ r * 2 ^ (k + n) % 2 ^ suc v
  unfolding crc_bits bits_of
  crc_own zero k m r e = ap (λ (n : ℕ). r * 2 ^ n % 2 ^ suc v) (omega arith)
  crc_own (suc n) k m r e =
      let x = r * 2 ^ k % 2 ^ suc v in
      ap (λ (b : ℕ). crc_bits (suc v) poly (crc_bit (suc v) poly x b) (bits_of n (r / 2 ^ m)))
      (ap (λ (y : ℕ). y % 2) (shr-shr r m n) ∙ sym (shifted_top r k (m + n) (omega arith)))
      ∙ ap (λ (y : ℕ). crc_bits (suc v) poly y (bits_of n (r / 2 ^ m))) (bit-own x (mod-lt (r * 2 ^ k) (pow_pos (suc v))) ∙ shifted_on r k)
      ∙ crc_own n (suc k) m r (omega arith) ∙ ap (λ (n : ℕ). r * 2 ^ n % 2 ^ suc v) (omega arith)

  looked_up : (n r x : ℕ) → n ≤ suc v → r < 2 ^ suc v
      → crc_bits (suc v) poly r (bits_of n x) ≡ bit_xor (crc_bits (suc v) poly 0 (bits_of n (bit_xor (r / 2 ^ (suc v - n)) x))) (r * 2 ^ n % 2 ^ suc v)
  looked_up n r x h hr =
      let t = r / 2 ^ (suc v - n) in
      ap (λ (y : ℕ). crc_bits (suc v) poly r (bits_of n y)) (sym (xor_cancel t x)) ∙ crc_xor n 0 r (bit_xor t x) t (pow_pos (suc v)) hr
      ∙ ap (bit_xor (crc_bits (suc v) poly 0 (bits_of n (bit_xor t x))))
      (ap (λ (y : ℕ). crc_bits (suc v) poly y (bits_of n t)) (sym (ap (λ (y : ℕ). y % 2 ^ suc v) (mul-one r) ∙ mod-eq_of_lt hr))
      ∙ crc_own n 0 (suc v - n) r (omega arith) ∙ ap (λ (k : ℕ). r * 2 ^ k % 2 ^ suc v) (omega arith))

-- ---- n bits at once: the upper n bits XOR the new ones are summed from zero, and XORed with the lower bits shifted up

pub crc_bits_lem : (w poly n r x : ℕ) → poly < 2 ^ w → n ≤ w → r < 2 ^ w
    → crc_bits w poly r (bits_of n x) ≡ bit_xor (crc_bits w poly 0 (bits_of n (bit_xor (r / 2 ^ (w - n)) x))) (r * 2 ^ n % 2 ^ w)
unfolding crc_bits bits_of
crc_bits_lem zero poly zero r x hp h hr = omega arith
crc_bits_lem zero poly (suc n) r x hp h hr = absurd (omega arith)
crc_bits_lem (suc v) poly n r x hp h hr = looked_up v poly hp n r x h hr

pub crc_byte : (w poly r b : ℕ) → poly < 2 ^ w → 8 ≤ w → r < 2 ^ w
    → crc_bits w poly r (bits_of_byte b) ≡ bit_xor (crc_bits w poly 0 (bits_of_byte (bit_xor (r / 2 ^ (w - 8)) b))) (r * 256 % 2 ^ w)
unfolding bits_of_byte bits_of
crc_byte w poly r b hp h hr = crc_bits_lem w poly 8 r b hp h hr

-- ---- one byte in the XOR of two sums: it is put into one of them, and a zero byte into the other

pub byte_xor : (w poly q r b : ℕ) → poly < 2 ^ w → 8 ≤ w → q < 2 ^ w → r < 2 ^ w
    → crc_bits w poly (bit_xor q r) (bits_of_byte b) ≡ bit_xor (crc_bits w poly q (bits_of_byte 0)) (crc_bits w poly r (bits_of_byte b))
unfolding bits_of_byte bits_of
byte_xor zero poly q r b hp h hq hr = absurd (omega arith)
byte_xor (suc v) poly q r b hp h hq hr =
    ap (λ (x : ℕ). crc_bits (suc v) poly (bit_xor q r) (bits_of 8 x)) (sym (xor_zero_l b)) ∙ crc_xor v poly hp 8 q r 0 b hq hr
