-- `side` meets its contract: the difference is exact at 64 bits. Assumes nothing.
use Rattle.rfc9639.specs.Write.{side_of}
use Rattle.rfc9639.proofs.MachineIntegers.{widen_fits}
use Rattle.number.proofs.ExactSums.{difference_fits_64, difference_exact}
use Rattle.subframe_samples.proofs.sample.side.Goals as goal

pub overflow_cast-result : goal.overflow_cast-result
overflow_cast-result c = widen_fits c.ranges.left

pub overflow_cast-result-2 : goal.overflow_cast-result-2
overflow_cast-result-2 c = widen_fits c.ranges.right

pub overflow_sub-result : goal.overflow_sub-result
overflow_sub-result c = difference_fits_64 c.ranges.left c.ranges.right

pub returns : goal.returns
unfolding side_of
returns c = difference_exact c.ranges.left c.ranges.right
