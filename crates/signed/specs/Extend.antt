-- The low bits of a number and their sign extension, at every width: a width over 64 counts as 64.
use Rattle.std.specs.Prelude.{ℕ, leb, ℤ, pos, if◌then◌else◌}
use Rattle.rfc9639.specs.Integers.{low, wrapped}

-- the low w bits of v, as a signed number
unfoldable pub sign_extend : ℕ → ℕ → ℤ
sign_extend w v = if leb w 63 then wrapped w (pos v) else wrapped 64 (pos v)

-- the low w bits of z
unfoldable pub low_bits : ℕ → ℤ → ℕ
low_bits w z = if leb w 63 then low w z else low 64 z
