-- What the answers of this crate mean in the definition, and what 64 bits keep of the number that was read.
use Rattle.std.specs.Prelude.{ℕ, ◌+◌, ◌*◌, ◌%◌, ◌^◌, List, leb, ltb, length, take, drop, if◌then◌else◌}
use Rattle.reading.specs.Bytes.{bits_of_bytes}
use Rattle.reading.specs.NumbersAsBits.{spelt}
use Rattle.reading.specs.Places.{At, got_at, refused_at, short_at}

unfoldable pub map_at : {A B : Type 0} → (A → B) → At A → At B
map_at f (got_at a p) = got_at (f a) p
map_at f (refused_at n) = refused_at n
map_at f short_at = short_at

-- of more than 64 bits, the last 64
unfoldable pub low64 : At ℕ → At ℕ
low64 x = map_at (λ v. v % 2 ^ 64) x

-- The number of zeros where there are fewer than 2 ^ 32; else its low 32 bits, with bit 32 set.
unfoldable pub count : ℕ → ℕ
count z = if ltb z (2 ^ 32) then z else 2 ^ 32 + z % 2 ^ 32

unfoldable pub counted_zeros : At ℕ → At ℕ
counted_zeros x = map_at count x

-- The number that the bits of the eight bytes from a byte on spell; 0 where fewer than eight are left.
unfoldable pub word_from : List ℕ → ℕ → ℕ
word_from s byte = if leb (byte + 8) (length s) then spelt 0 (take 64 (drop (8 * byte) (bits_of_bytes s))) else 0
