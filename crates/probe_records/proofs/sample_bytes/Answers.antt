-- `sample_bytes` meets its contract. Assumes nothing.
use Prim.Native.Nat.{ℕ}
use native.Mathlib.Nat.{mod-eq_of_lt}
use native.Mathlib.Omega.{arith}
use mathlib.Core.Path.{◌≡◌, ap, sym, ◌∙◌}
use lib.IntN.{ℤ}
use mir.Facts.{Fits-of_z, to_z-of_z}
use mir.Syntax.{w32}
use mir.Val.{SFits, of_z}
use Rattle.std.specs.Int.{to_le_bytes}
use Rattle.rfc9639.specs.Integers.{low}
use Rattle.rfc9639.proofs.Widths.{low_of_congruent}
use Rattle.rfc9639.proofs.MachineIntegers.{of_z_congruent}
use Rattle.probe_records.specs.LittleEndian.{little}
use Rattle.probe_records.proofs.sample_bytes.Goals as goal

four : (n : ℕ) → to_le_bytes w32 n ≡ little 4 n
four n = grind arith

all : {x : ℤ} → SFits w32 x → of_z w32 x ≡ low 32 x
all {x} f = sym (mod-eq_of_lt (Fits-of_z f).fits) ∙ low_of_congruent 32 (of_z_congruent f)

pub returns : goal.returns
returns c = c.to_le_bytes.ensures ∙ ap (to_le_bytes w32) (ap (of_z w32) (to_z-of_z c.ranges.x) ∙ all c.ranges.x) ∙ four _
