-- The coded residual (RFC 9639 section 9.2.7).
use Rattle.std.specs.Prelude.{ℕ, ◌+◌, ◌-◌, ◌*◌, ◌/◌, ◌%◌, ◌^◌, List, ◌∷◌, leb, ltb, eqb, ℤ, pos, negsuc, replicate, if◌then◌else◌}
use Rattle.reading.specs.Readers.{Ask, done, ◌>>=◌, ◌>>◌, bits, zeros, require, many, each}
use Rattle.rfc9639.specs.Integers.{signed_bits}

-- Section 9.2.7.2: a residual from its folded (zigzag) form. 2 n unfolds to n, and 2 n + 1 to -1 - n.
unfoldable pub unfolded : ℕ → ℤ
unfolded n = if eqb (n % 2) 0 then pos (n / 2) else negsuc (n / 2)

-- the folded form from a quotient and a remainder of k bits; the low 32 bits are kept
unfoldable pub folded : ℕ → ℕ → ℕ → ℕ
folded k q r = (q * 2 ^ k + r) % 2 ^ 32

-- Section 9.2.7.2: a Rice code, the quotient in unary and then the remainder in k bits.
unfoldable pub rice : ℕ → Ask ℤ
rice k = do
  q ← zeros
  r ← bits k
  done (unfolded (folded k q r))

-- Section 9.2.7.1: n residuals in two's complement, all of the width that comes first. With a width of 0 they are zeros
-- and take no bits.
unfoldable pub escaped : ℕ → Ask (List ℤ)
escaped n = do
  w ← bits 5
  many n (signed_bits w)

-- n residuals with the Rice parameter k; the last parameter of each method is the escape code
unfoldable pub coded_residuals : ℕ → ℕ → ℕ → Ask (List ℤ)
coded_residuals method k n = if eqb k (2 ^ (4 + method) - 1) then escaped n else many n (rice k)

-- Section 9.2.7: a Rice parameter, of 4 bits in method 0 and of 5 in method 1, then the residuals.
unfoldable pub partition : ℕ → ℕ → Ask (List ℤ)
partition method n = do
  k ← bits (4 + method)
  coded_residuals method k n

-- 2 ^ order partitions of one size; the first has fewer residuals by the number of warm-up samples
unfoldable pub partition_sizes : ℕ → ℕ → ℕ → List ℕ
partition_sizes order size warm = (size - warm) ∷ replicate (2 ^ order - 1) size

-- the residual of a block of n samples, of which the first `warm` are the warm-up
unfoldable pub residual : ℕ → ℕ → Ask (List ℤ)
residual warm n = do
  method ← bits 2
  require (ltb method 2) 4
  order ← bits 4
  require (eqb (n % 2 ^ order) 0) 9
  require (leb warm (n / 2 ^ order)) 9
  each (partition method) (partition_sizes order (n / 2 ^ order) warm)
