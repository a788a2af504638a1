-- Integers of w bits in two's complement. Prediction and stereo decoding compute in ℤ, and `wrapped` is where a result
-- is cut to a width. Only a residual's folded form is cut elsewhere (`folded`, Residual.antt).
use Rattle.std.specs.Prelude.{ℕ, suc, ◌-◌, ◌*◌, ◌/◌, ◌%◌, ◌^◌, ltb, ℤ, pos, negsuc, ◌*ℤ◌, if◌then◌else◌}
use Rattle.reading.specs.Readers.{Ask, done, ◌>>=◌, bits}

-- the value of w bits, read in two's complement
unfoldable pub signed : ℕ → ℕ → ℤ
signed w v = if ltb (v * 2) (2 ^ w) then pos v else negsuc (2 ^ w - suc v)

-- the low w bits of an integer
unfoldable pub low : ℕ → ℤ → ℕ
low w (pos n) = n % 2 ^ w
low w (negsuc n) = 2 ^ w - suc (n % 2 ^ w)

-- the low w bits of an integer, read in two's complement
unfoldable pub wrapped : ℕ → ℤ → ℤ
wrapped w z = signed w (low w z)

-- divided by 2 ^ k, rounded down
unfoldable pub shift_down : ℕ → ℤ → ℤ
shift_down k (pos n) = pos (n / 2 ^ k)
shift_down k (negsuc n) = negsuc (n / 2 ^ k)

-- times 2 ^ k, of which the low 32 bits are kept
unfoldable pub shift_up : ℕ → ℤ → ℤ
shift_up k z = wrapped 32 (z *ℤ pos (2 ^ k))

-- a sample of w bits
unfoldable pub signed_bits : ℕ → Ask ℤ
signed_bits w = do
  v ← bits w
  done (signed w v)
