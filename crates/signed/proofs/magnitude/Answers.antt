-- `magnitude` meets its contract, by the sign. Assumes nothing.
use Rattle.signed.proofs.SignCases.{cast_pos, cast_pos_is, complement_fits, cast_complement, cast_complement_is}
use Rattle.signed.proofs.magnitude.Goals as goal

pub overflow_cast-result : goal.overflow_cast-result
overflow_cast-result c = cast_pos c.ranges.x c.if-x-ge0.true

pub returns-then-x-ge0 : goal.returns-then-x-ge0
returns-then-x-ge0 c = cast_pos_is c.ranges.x c.if-x-ge0.true

pub overflow_sub-result : goal.overflow_sub-result
overflow_sub-result c = complement_fits c.ranges.x c.if-x-ge0.false

pub overflow_cast-result-2 : goal.overflow_cast-result-2
overflow_cast-result-2 c = cast_complement c.ranges.x c.if-x-ge0.false

pub returns : goal.returns
returns c = cast_complement_is c.ranges.x c.if-x-ge0.false
