-- `chunk`: bits of a byte, by a shift to the right and a remainder by a power of two. Assumes nothing.
use native.Mathlib.Omega.{arith}
use lib.Pow.{pow_pos}
use Rattle.reading.proofs.Bits.{one_shifted}
use Rattle.input.proofs.chunk.Goals as goal

pub nonzero_rem-result : goal.nonzero_rem-result
nonzero_rem-result c = rw (one_shifted c.args.m (omega arith)) (pow_pos c.args.m)

pub returns : goal.returns
returns c = rw (one_shifted c.args.m (omega arith))
