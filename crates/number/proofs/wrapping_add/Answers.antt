-- `wrapping_add` meets its contract: the bits of the sum are those of the sum of the bits. Assumes nothing.
use mathlib.Core.Path.{ap, ◌∙◌}
use mir.Syntax.{w32}
use Rattle.rfc9639.specs.Integers.{signed, wrapped}
use Rattle.rfc9639.proofs.Widths.{low_of_congruent, congruent_add}
use Rattle.rfc9639.proofs.MachineIntegers.{to_z-signed, of_z_congruent}
use Rattle.number.proofs.wrapping_add.Goals as goal

pub returns : goal.returns
unfolding wrapped
returns c = to_z-signed w32 _ ∙ ap (signed 32) (low_of_congruent 32 (congruent_add 32 (of_z_congruent c.ranges.a) (of_z_congruent c.ranges.b)))
