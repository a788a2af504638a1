-- The check sums (RFC 9639 sections 9.1.8 and 9.3) are CRCs: the remainder of the bits, most significant first and
-- followed by w zeros, divided by a polynomial of degree w over the field of two elements. Both start from zero.
use Rattle.std.specs.Prelude.{ℕ, ◌+◌, ◌-◌, ◌*◌, ◌/◌, ◌%◌, ◌^◌, List, [], ◌∷◌, eqb, if◌then◌else◌}
use Rattle.std.specs.Int.Bits.{bit_xor}

-- The CRC of w bits after one more bit b of the input. `poly` has one bit for each term of the polynomial below x^w.
unfoldable pub crc_bit : ℕ → ℕ → ℕ → ℕ → ℕ
crc_bit w poly r b = if eqb ((r / 2 ^ (w - 1) + b) % 2) 1 then bit_xor (r * 2 % 2 ^ w) poly else r * 2 % 2 ^ w

unfoldable pub crc_bits : ℕ → ℕ → ℕ → List ℕ → ℕ
crc_bits w poly r [] = r
crc_bits w poly r (b ∷ s) = crc_bits w poly (crc_bit w poly r b) s

-- x^8 + x^2 + x + 1
unfoldable pub crc8 : List ℕ → ℕ
crc8 s = crc_bits 8 0x07 0 s

-- x^16 + x^15 + x^2 + 1
unfoldable pub crc16 : List ℕ → ℕ
crc16 s = crc_bits 16 0x8005 0 s
