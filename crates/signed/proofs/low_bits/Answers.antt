-- `low_bits` meets its contract, by the width. Assumes nothing.
use Rattle.signed.proofs.SignExtension.{low_bits-from_64, divisor_positive, low_bits-below_64}
use Rattle.signed.proofs.low_bits.Goals as goal

pub nonzero_rem-result : goal.nonzero_rem-result
nonzero_rem-result c = let s = c in divisor_positive s.args.width s.ranges.x c.cast_unsigned-all.ensures c.cast_unsigned-all.type_inv c.if-width-lt64.true

pub returns-then-width-lt64 : goal.returns-then-width-lt64
returns-then-width-lt64 c = let s = c in low_bits-below_64 s.args.width s.ranges.x c.cast_unsigned-all.ensures c.cast_unsigned-all.type_inv c.if-width-lt64.true

pub returns : goal.returns
returns c = let s = c in low_bits-from_64 s.args.width s.ranges.x c.cast_unsigned-all.ensures c.cast_unsigned-all.type_inv c.if-width-lt64.false
