-- What the tables of a check sum hold: the sum of each byte by itself, and of each byte with zero bytes after it. Only
-- contracts of private functions name it, so a caller need not trust it.
use Rattle.std.specs.Prelude.{ℕ, zero, suc, ◌≡◌, List, [], ◌∷◌, map}
use Rattle.reading.specs.Bytes.{bits_of_byte}
use Rattle.rfc9639.specs.CheckSums.{crc_bits}

-- of n bytes, starting with the byte i
unfoldable pub sums_from : ℕ → ℕ → ℕ → ℕ → List ℕ
sums_from w poly i zero = []
sums_from w poly i (suc n) = crc_bits w poly 0 (bits_of_byte i) ∷ sums_from w poly (suc i) n

unfoldable pub byte_sums : ℕ → ℕ → List ℕ
byte_sums w poly = sums_from w poly 0 256

-- a table, and n more, each of which is the one before it after one more zero byte
unfoldable pub tables_from : ℕ → ℕ → ℕ → List ℕ → List (List ℕ)
tables_from w poly zero t = t ∷ []
tables_from w poly (suc n) t = t ∷ tables_from w poly n (map (λ (r : ℕ). crc_bits w poly r (bits_of_byte 0)) t)

-- eight tables, of which the first has the bytes' sums
unfoldable pub EightTables : ℕ → ℕ → List (List ℕ) → Type 0
EightTables w poly t = t ≡ tables_from w poly 7 (byte_sums w poly)
