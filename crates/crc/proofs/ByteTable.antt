-- The tables of the bytes' sums: one more byte in a sum is one look-up. Assumes nothing.
use Prim.Native.Nat.{ℕ, zero, suc, ◌+◌, ◌*◌, ◌-◌, ◌/◌, ◌%◌, ◌^◌, ◌≤◌, ◌<◌}
use native.Mathlib.Nat.{zero-add, add-zero, suc-add, add-suc, div-one, mul-mod_left}
use native.Mathlib.Omega.{arith}
use mathlib.Core.Path.{◌≡◌, refl, ap, ap₂, sym, ◌∙◌}
use mathlib.Core.List.{List, [], ◌∷◌, map}
use lib.Bits.{bit_xor, xor_lt, xor_self, xor_zero_r}
use lib.ListN.{length, get_or, replicate, get_or-map}
use lib.Pow.{pow_pos, shr_lt}
use Rattle.reading.specs.Bytes.{bits_of_byte, bits_of_bytes}
use Rattle.rfc9639.specs.CheckSums.{crc_bits}
use Rattle.crc.specs.Private.{sums_from, byte_sums, tables_from, EightTables}
use Rattle.crc.proofs.CrcLinearity.{crc_cons, crc_byte, byte_xor}

sums_from_at : (w poly i n k : ℕ) → k < n → get_or (sums_from w poly i n) k 0 ≡ crc_bits w poly 0 (bits_of_byte (i + k))
unfolding sums_from
sums_from_at w poly i zero k h = absurd (omega arith)
sums_from_at w poly i (suc n) zero h = ap (λ (b : ℕ). crc_bits w poly 0 (bits_of_byte b)) (sym (add-zero i))
sums_from_at w poly i (suc n) (suc k) h =
    sums_from_at w poly (suc i) n k (omega arith) ∙ ap (λ (b : ℕ). crc_bits w poly 0 (bits_of_byte b)) (suc-add i k ∙ sym (add-suc i k))

sums_from-length : (w poly i n : ℕ) → length (sums_from w poly i n) ≡ n
unfolding sums_from
sums_from-length w poly i zero = refl
sums_from-length w poly i (suc n) = ap suc (sums_from-length w poly (suc i) n)

byte_sums_at : (w poly k : ℕ) → k < 256 → get_or (byte_sums w poly) k 0 ≡ crc_bits w poly 0 (bits_of_byte k)
unfolding byte_sums
byte_sums_at w poly k h = sums_from_at w poly 0 256 k h ∙ ap (λ (b : ℕ). crc_bits w poly 0 (bits_of_byte b)) (zero-add k)

byte_sums-length : (w poly : ℕ) → length (byte_sums w poly) ≡ 256
unfolding byte_sums
byte_sums-length w poly = sums_from-length w poly 0 256

-- ---- one more byte in a sum, where the table's first entries are the bytes' sums

module _ (w poly : ℕ) (table : List ℕ) (t : (k : ℕ) → k < 256 → get_or table k 0 ≡ crc_bits w poly 0 (bits_of_byte k)) where
  look_up : (r b : ℕ) → poly < 2 ^ w → 8 ≤ w → r < 2 ^ w → b < 256
      → bit_xor (get_or table (bit_xor (r / 2 ^ (w - 8)) b) 0) (r * 256 % 2 ^ w) ≡ crc_bits w poly r (bits_of_byte b)
  look_up r b hp hw hr hb =
      let e : 8 + (w - 8) ≡ w = omega arith in
      let place : bit_xor (r / 2 ^ (w - 8)) b < 256 = xor_lt 8 (r / 2 ^ (w - 8)) b (shr_lt 8 (w - 8) (rw e hr)) hb in
      ap (λ (x : ℕ). bit_xor x (r * 256 % 2 ^ w)) (t (bit_xor (r / 2 ^ (w - 8)) b) place) ∙ sym (crc_byte w poly r b hp hw hr)

-- a sum of 8 bits has no lower bits to shift up
pub look_up_8 : (poly : ℕ) (table : List ℕ) → table ≡ byte_sums 8 poly → (r b : ℕ) → poly < 256 → r < 256 → b < 256
    → get_or table (bit_xor r b) 0 ≡ crc_bits 8 poly r (bits_of_byte b)
look_up_8 poly table t r b hp hr hb =
    sym (xor_zero_r (get_or table (bit_xor r b) 0))
    ∙ ap₂ (λ (x y : ℕ). bit_xor (get_or table (bit_xor x b) 0) y) (sym (div-one r)) (sym (mul-mod_left r 256))
    ∙ look_up 8 poly table (λ k h. ap (λ (l : List ℕ). get_or l k 0) t ∙ byte_sums_at 8 poly k h) r b hp (omega arith) hr hb

-- ---- eight tables

module _ (w poly : ℕ) (hp : poly < 2 ^ w) (hw : 8 ≤ w) where
  -- zero bytes leave the sum zero
  zero_stays : crc_bits w poly 0 (bits_of_byte 0) ≡ 0
  zero_stays = byte_xor w poly 0 0 0 hp hw (pow_pos w) (pow_pos w) ∙ xor_self (crc_bits w poly 0 (bits_of_byte 0))

  -- an entry of table n is that of the first table after n zero bytes
  table_at : (last n k : ℕ) (t : List ℕ) → n ≤ last
      → get_or (get_or (tables_from w poly last t) n []) k 0 ≡ crc_bits w poly (get_or t k 0) (bits_of_bytes (replicate n 0))
  unfolding tables_from crc_bits bits_of_bytes
  table_at zero zero k t h = refl
  table_at zero (suc n) k t h = absurd (omega arith)
  table_at (suc last) zero k t h = refl
  table_at (suc last) (suc n) k t h =
      let more : ℕ → ℕ = λ (r : ℕ). crc_bits w poly r (bits_of_byte 0) in
      table_at last n k (map more t) (omega arith)
      ∙ ap (λ (r : ℕ). crc_bits w poly r (bits_of_bytes (replicate n 0))) (ap (get_or (map more t) k) (sym zero_stays) ∙ get_or-map more t k 0)
      ∙ sym (crc_cons w poly (get_or t k 0) 0 (replicate n 0))

  module _ (t : List (List ℕ)) (e : EightTables w poly t) where
    -- an entry of table n is the sum of its byte with n zero bytes after it
    pub look_up-zeros : (n b : ℕ) → n < 8 → b < 256 → get_or (get_or t n []) b 0 ≡ crc_bits w poly 0 (bits_of_bytes (b ∷ replicate n 0))
    unfolding EightTables
    look_up-zeros n b hn hb =
        ap (λ (l : List (List ℕ)). get_or (get_or l n []) b 0) e ∙ table_at 7 n b (byte_sums w poly) (omega arith)
        ∙ ap (λ (r : ℕ). crc_bits w poly r (bits_of_bytes (replicate n 0))) (byte_sums_at w poly b hb) ∙ sym (crc_cons w poly 0 b (replicate n 0))

    -- the first table
    first_at : (k : ℕ) → k < 256 → get_or (get_or t 0 []) k 0 ≡ crc_bits w poly 0 (bits_of_byte k)
    unfolding crc_bits bits_of_bytes
    first_at k h = look_up-zeros 0 k (omega arith) h ∙ crc_cons w poly 0 k []

    pub look_up-first : (r b : ℕ) → r < 2 ^ w → b < 256
        → bit_xor (get_or (get_or t 0 []) (bit_xor (r / 2 ^ (w - 8)) b) 0) (r * 256 % 2 ^ w) ≡ crc_bits w poly r (bits_of_byte b)
    look_up-first r b hr hb = look_up w poly (get_or t 0 []) first_at r b hp hw hr hb
