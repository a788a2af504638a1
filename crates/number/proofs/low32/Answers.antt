-- `low32` meets its contract: a shift up and down by 32 leaves the low half, signed. Assumes nothing.
use mathlib.Core.Path.{◌≡◌}
use lib.IntN.{ℤ}
use mir.Syntax.{w32, w64}
use mir.Val.{SFits, to_z, of_z}
use mir.Facts.{to_z-of_z, sfits_widen}
use Rattle.rfc9639.specs.Integers.{wrapped}
use Rattle.rfc9639.proofs.Widths.{to_sfits, wrapped-fits}
use Rattle.rfc9639.proofs.MachineIntegers.{up_and_down_32}
use Rattle.number.proofs.low32.Goals as goal

narrow : (z : ℤ) → SFits w32 (wrapped 32 z)
narrow z = to_sfits (wrapped-fits 32 z)

again : (z : ℤ) → to_z w64 (of_z w64 (wrapped 32 z)) ≡ wrapped 32 z
again z = to_z-of_z {w = w64} (sfits_widen {w = w32} {w' = w64} tt (narrow z))

pub overflow_cast-result : goal.overflow_cast-result
overflow_cast-result c = rw (up_and_down_32 c.ranges.x, again c.args.x) (narrow c.args.x)

pub returns : goal.returns
returns c = rw (up_and_down_32 c.ranges.x, again c.args.x) (to_z-of_z (narrow c.args.x))
