-- `mid` meets its contract: the sum is exact at 64 bits. Assumes nothing.
use mathlib.Core.Path.{ap, ◌∙◌}
use mir.Syntax.{w64}
use mir.Facts.{to_z-of_z}
use Rattle.rfc9639.specs.Integers.{shift_down}
use Rattle.rfc9639.specs.Write.{mid_of}
use Rattle.rfc9639.proofs.MachineIntegers.{widen_fits}
use Rattle.number.proofs.ExactSums.{sum_fits_64, sum-exact}
use Rattle.subframe_samples.proofs.sample.mid.Goals as goal

pub overflow_cast-left : goal.overflow_cast-left
overflow_cast-left c = widen_fits c.ranges.left

pub overflow_cast-right : goal.overflow_cast-right
overflow_cast-right c = widen_fits c.ranges.right

pub overflow_add-left : goal.overflow_add-left
overflow_add-left c = sum_fits_64 c.ranges.left c.ranges.right

pub returns : goal.returns
unfolding mid_of
returns c =
    to_z-of_z {w = w64} (record { sfits = c.half.type_inv }) ∙ c.half.ensures ∙ ap (shift_down 1) (sum-exact c.ranges.left c.ranges.right)
