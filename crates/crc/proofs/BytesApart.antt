-- Check sums of bytes taken apart: the sum of bytes is the XOR of each byte's own sum, with zero bytes after it; the sum
-- so far goes into the first of them. Assumes nothing.
use Prim.Native.Nat.{ℕ, suc, ◌+◌, ◌*◌, ◌-◌, ◌/◌, ◌%◌, ◌^◌, ◌≤◌, ◌<◌}
use native.Mathlib.Nat.{add-zero, sub-zero, mod-lt, zero-div, zero-mod}
use native.Mathlib.Omega.{arith}
use mathlib.Core.Path.{◌≡◌, refl, ap, ap₂, sym, ◌∙◌}
use mathlib.Core.List.{List, [], ◌∷◌}
use lib.Bits.{bit_xor, xor_zero_l, xor_zero_r}
use lib.ListN.{length, get_or, take, drop, replicate, length-drop}
use lib.Pow.{pow_pos}
use lib.Seq.{drop-cons, length-take-le}
use Rattle.reading.specs.Bytes.{bits_of_byte, bits_of_bytes}
use Rattle.rfc9639.specs.CheckSums.{crc_bits}
use Rattle.rfc9639.proofs.CheckSums.{crc_below}
use Rattle.crc.proofs.CrcLinearity.{crc_cons, crc_byte, byte_xor}
use Rattle.crc.proofs.XorLaws.{xor_assoc}

-- a sum r after more bytes
abbrev crc_bytes : ℕ → ℕ → ℕ → List ℕ → ℕ
crc_bytes w poly r s = crc_bits w poly r (bits_of_bytes s)

module _ (w poly : ℕ) (hp : poly < 2 ^ w) (hw : 8 ≤ w) where
  -- bytes after the XOR of two sums: they are put into one of them, and as many zero bytes into the other
  bytes_xor : (q r : ℕ) (s : List ℕ) → q < 2 ^ w → r < 2 ^ w
      → crc_bytes w poly (bit_xor q r) s ≡ bit_xor (crc_bytes w poly q (replicate (length s) 0)) (crc_bytes w poly r s)
  unfolding crc_bits bits_of_bytes
  bytes_xor q r [] hq hr = refl
  bytes_xor q r (b ∷ s) hq hr =
      crc_cons w poly (bit_xor q r) b s ∙ ap (λ (x : ℕ). crc_bytes w poly x s) (byte_xor w poly q r b hp hw hq hr)
      ∙ bytes_xor (crc_bits w poly q (bits_of_byte 0)) (crc_bits w poly r (bits_of_byte b)) s (crc_below w poly hp q (bits_of_byte 0) hq)
      (crc_below w poly hp r (bits_of_byte b) hr)
      ∙ sym (ap₂ bit_xor (crc_cons w poly q 0 (replicate (length s) 0)) (crc_cons w poly r b s))

  -- the first byte apart: it takes the upper eight bits of the sum so far, and the rest the lower bits shifted up
  first-apart : (r b : ℕ) (s : List ℕ) → r < 2 ^ w
      → crc_bytes w poly r (b ∷ s)
      ≡ bit_xor (crc_bytes w poly 0 (bit_xor (r / 2 ^ (w - 8)) b ∷ replicate (length s) 0)) (crc_bytes w poly (r * 256 % 2 ^ w) s)
  first-apart r b s hr =
      let c = bit_xor (r / 2 ^ (w - 8)) b in
      crc_cons w poly r b s ∙ ap (λ (x : ℕ). crc_bytes w poly x s) (crc_byte w poly r b hp hw hr)
      ∙ bytes_xor (crc_bits w poly 0 (bits_of_byte c)) (r * 256 % 2 ^ w) s (crc_below w poly hp 0 (bits_of_byte c) (pow_pos w)) (mod-lt (r * 256) (pow_pos w))
      ∙ ap (λ (x : ℕ). bit_xor x (crc_bytes w poly (r * 256 % 2 ^ w) s)) (sym (crc_cons w poly 0 c (replicate (length s) 0)))

  -- the same of bytes in a list
  part_apart : (r : ℕ) (s : List ℕ) (i n : ℕ) → r < 2 ^ w → i + suc n ≤ length s
      → crc_bytes w poly r (take (suc n) (drop i s))
      ≡ bit_xor (crc_bytes w poly 0 (bit_xor (r / 2 ^ (w - 8)) (get_or s i 0) ∷ replicate n 0))
      (crc_bytes w poly (r * 256 % 2 ^ w) (take n (drop (suc i) s)))
  part_apart r s i n hr h =
      let rest = take n (drop (suc i) s) in
      let size : length rest ≡ n = length-take-le n (drop (suc i) s) (rw length-drop (omega arith)) in
      ap (λ (l : List ℕ). crc_bytes w poly r (take (suc n) l)) (drop-cons s i 0 (omega arith)) ∙ first-apart r (get_or s i 0) rest hr
      ∙ ap (λ (m : ℕ). bit_xor (crc_bytes w poly 0 (bit_xor (r / 2 ^ (w - 8)) (get_or s i 0) ∷ replicate m 0)) (crc_bytes w poly (r * 256 % 2 ^ w) rest))
      size

  -- and from a sum of zero
  zero-apart : (s : List ℕ) (i n : ℕ) → i + suc n ≤ length s
      → crc_bytes w poly 0 (take (suc n) (drop i s))
      ≡ bit_xor (crc_bytes w poly 0 (get_or s i 0 ∷ replicate n 0)) (crc_bytes w poly 0 (take n (drop (suc i) s)))
  zero-apart s i n h =
      part_apart 0 s i n (pow_pos w) h
      ∙ ap₂ (λ (x y : ℕ). bit_xor (crc_bytes w poly 0 (x ∷ replicate n 0)) (crc_bytes w poly y (take n (drop (suc i) s))))
      (ap (λ (x : ℕ). bit_xor x (get_or s i 0)) (zero-div (2 ^ (w - 8))) ∙ xor_zero_l (get_or s i 0)) (zero-mod (2 ^ w))

-- the invariant of a loop of look-ups: `sum` lacks what the bytes from k on add to the sum of the n bytes from i
pub record Looked (w poly : ℕ) (s : List ℕ) (i n sum k : ℕ) : Type 0 where
  pub within : k ≤ n
  pub lacks : bit_xor sum (crc_bytes w poly 0 (take (n - k) (drop (i + k) s))) ≡ crc_bytes w poly 0 (take n (drop i s))

module _ (w poly : ℕ) (s : List ℕ) (i n : ℕ) where
  pub none_looked : Looked w poly s i n 0 0
  none_looked = record {
    within = omega arith;
    lacks =
        xor_zero_l (crc_bytes w poly 0 (take (n - 0) (drop (i + 0) s)))
        ∙ ap₂ (λ (m j : ℕ). crc_bytes w poly 0 (take m (drop j s))) (sub-zero n) (add-zero i);
  }

  module _ (sum k : ℕ) (m : Looked w poly s i n sum k) where
    pub one_looked : (r left : ℕ) → poly < 2 ^ w → 8 ≤ w → i + n ≤ length s → n ≡ suc (k + left)
        → r ≡ crc_bytes w poly 0 (get_or s (i + k) 0 ∷ replicate left 0) → Looked w poly s i n (bit_xor sum r) (k + 1)
    one_looked r left hp hw h e is =
        let here : n - k ≡ suc left = omega arith in
        let later : n - (k + 1) ≡ left = omega arith in
        let place : i + (k + 1) ≡ suc (i + k) = omega arith in
        record {
          within = omega arith;
          lacks =
              cc (m.lacks, zero-apart w poly hp hw s (i + k) left (omega arith), xor_assoc sum r (crc_bytes w poly 0 (take left (drop (suc (i + k)) s))));
        }

    pub all_looked : n ≤ k → sum ≡ crc_bytes w poly 0 (take n (drop i s))
    unfolding crc_bits bits_of_bytes
    all_looked h =
        let none : n - k ≡ 0 = omega arith in
        sym (xor_zero_r sum) ∙ ap (λ (j : ℕ). bit_xor sum (crc_bytes w poly 0 (take j (drop (i + k) s)))) (sym none) ∙ m.lacks

-- a sum of 16 bits goes into two bytes, and the bytes after them are summed from zero
pub two-apart : (poly : ℕ) → poly < 2 ^ 16 → (r : ℕ) (s : List ℕ) (i n : ℕ) → r < 2 ^ 16 → i + suc (suc n) ≤ length s
    → crc_bytes 16 poly r (take (suc (suc n)) (drop i s))
    ≡ bit_xor
    (bit_xor (crc_bytes 16 poly 0 (bit_xor (r / 256) (get_or s i 0) ∷ replicate (suc n) 0))
    (crc_bytes 16 poly 0 (bit_xor (r % 256) (get_or s (i + 1) 0) ∷ replicate n 0)))
    (crc_bytes 16 poly 0 (take n (drop (i + 2) s)))
two-apart poly hp r s i n hr h =
    let low : r * 256 % 2 ^ 16 / 256 ≡ r % 256 = omega arith in
    let gone : r * 256 % 2 ^ 16 * 256 % 2 ^ 16 ≡ 0 = omega arith in
    let second : suc i ≡ i + 1 = omega arith in
    let third : suc (suc i) ≡ i + 2 = omega arith in
    let one = crc_bytes 16 poly 0 (bit_xor (r / 256) (get_or s i 0) ∷ replicate (suc n) 0) in
    let two = crc_bytes 16 poly 0 (bit_xor (r % 256) (get_or s (i + 1) 0) ∷ replicate n 0) in
    let rest = crc_bytes 16 poly 0 (take n (drop (i + 2) s)) in
    let apart : crc_bytes 16 poly (r * 256 % 2 ^ 16) (take (suc n) (drop (suc i) s)) ≡ bit_xor two rest =
    cc (part_apart 16 poly hp (omega arith) (r * 256 % 2 ^ 16) s (suc i) n (omega arith) (omega arith)) in
    part_apart 16 poly hp (omega arith) r s i (suc n) hr h ∙ ap (bit_xor one) apart ∙ sym (xor_assoc one two rest)
