-- Check sums: a CRC of w bits fits w bits, for any polynomial below 2 ^ w; and the two of the format. Assumes nothing.
use Prim.Native.Nat.{ℕ, ◌+◌, ◌-◌, ◌*◌, ◌/◌, ◌%◌, ◌^◌, ◌<◌}
use native.Mathlib.Nat.{mod-lt}
use mathlib.Core.Bool.{Bool, true, false}
use mathlib.Core.List.{List, [], ◌∷◌}
use lib.Bits.{bit_xor, xor_lt}
use lib.Dec.{eqb, lit<}
use lib.Pow.{pow_pos}
use Rattle.std.specs.Prelude.{if◌then◌else◌}
use Rattle.rfc9639.specs.CheckSums.{crc_bit, crc_bits, crc8, crc16}

module _ (w poly : ℕ) (hp : poly < 2 ^ w) where
  either : (b : Bool) (a : ℕ) → a < 2 ^ w → (if b then bit_xor a poly else a) < 2 ^ w
  either true a h = xor_lt w a poly h hp
  either false a h = h

  pub bit_below : (r b : ℕ) → crc_bit w poly r b < 2 ^ w
  unfolding crc_bit
  bit_below r b = either (eqb ((r / 2 ^ (w - 1) + b) % 2) 1) (r * 2 % 2 ^ w) (mod-lt (r * 2) (pow_pos w))

  pub crc_below : (r : ℕ) (s : List ℕ) → r < 2 ^ w → crc_bits w poly r s < 2 ^ w
  unfolding crc_bits
  crc_below r [] h = h
  crc_below r (b ∷ s) h = crc_below (crc_bit w poly r b) s (bit_below r b)

pub crc8-below : (s : List ℕ) → crc8 s < 256
unfolding crc8
crc8-below s = crc_below 8 0x07 (lit< tt) 0 s (lit< tt)

pub crc16-below : (s : List ℕ) → crc16 s < 65536
unfolding crc16
crc16-below s = crc_below 16 0x8005 (lit< tt) 0 s (lit< tt)
