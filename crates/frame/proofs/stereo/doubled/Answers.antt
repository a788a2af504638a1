-- `doubled`: the low bit of side, and the sum, are exact in 64 bits, of which 32 are kept. Assumes nothing.
use native.Mathlib.Omega.{arith}
use mathlib.Core.Path.{◌≡◌, ap, ap₂, ◌∙◌}
use lib.Bits.{bit_and}
use lib.IntN.{ℤ, pos, ◌+ℤ◌, ◌*ℤ◌}
use mir.Syntax.{w32, w64}
use mir.Val.{SFits, to_z, of_z}
use mir.Facts.{to_z_pos, to_z-of_z}
use Rattle.std.proofs.lemmas.Nat.{and_mask}
use Rattle.rfc9639.specs.Integers.{low, wrapped}
use Rattle.rfc9639.specs.Stereo.{doubled}
use Rattle.rfc9639.proofs.Widths.{low_lt, low_of_congruent, congruent_narrow}
use Rattle.rfc9639.proofs.MachineIntegers.{widened, of_z_congruent}
use Rattle.frame.proofs.StereoPairs.{bits32, bits64, twice-fits, bit-fits, doubled_fits}
use Rattle.frame.proofs.stereo.doubled.Goals as goal

module _ {mid side : ℤ} (fm : SFits w32 mid) (fs : SFits w32 side) where
  low_bit : bit_and (of_z w32 side) 1 ≡ low 1 side
  low_bit = and_mask (of_z w32 side) 1 ∙ low_of_congruent 1 (congruent_narrow 1 31 (of_z_congruent fs))

  bit : bits64 (to_z w32 (bit_and (of_z w32 side) 1)) ≡ pos (low 1 side)
  bit = ap (λ n. bits64 (to_z w32 n)) low_bit ∙ ap bits64 (to_z_pos w32 (omega (arith, low_lt 1 side))) ∙ to_z-of_z {w = w64} (bit-fits side)

  -- twice the mid sample
  twice : bits64 (bits64 (bits32 mid) *ℤ pos 2) ≡ mid *ℤ pos 2
  twice = to_z-of_z {w = w64} (rw (widened fm) (twice-fits fm)) ∙ ap (λ (a : ℤ). a *ℤ pos 2) (widened fm)

  sum : bits64 (bits64 (bits64 (bits32 mid) *ℤ pos 2) +ℤ bits64 (to_z w32 (bit_and (of_z w32 side) 1))) ≡ mid *ℤ pos 2 +ℤ pos (low 1 side)
  sum = to_z-of_z {w = w64} (rw (twice, bit) (doubled_fits fm side)) ∙ ap₂ (λ (a b : ℤ). a +ℤ b) twice bit

pub returns : goal.returns
unfolding doubled
returns c = to_z-of_z {w = w32} (record { sfits = c.low32.type_inv }) ∙ c.low32.ensures ∙ ap (wrapped 32) (sum c.ranges.mid c.ranges.side)
