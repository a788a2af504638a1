-- Zeros by 32, then the rest with the one; the loop's invariant is BitsLeft. Assumes nothing.
use Rattle.bit_writer.proofs.BitLoops.{none_written, begin, output-full, step-zeros, end-zeros}
use Rattle.bit_writer.proofs.BitWriter.write_unary.Goals as goal

pub returns-then-not-is_pen : goal.returns-then-not-is_pen
returns-then-not-is_pen c = none_written _ (cc)

pub loop-left-init : goal.loop-left-init
loop-left-init c = begin _ (cc)

pub returns-then-self : goal.returns-then-self
returns-then-self c = output-full c.loop-left.invariant c.if-self.true

pub loop-left-preserved : goal.loop-left-preserved
loop-left-preserved c = step-zeros _ _ c.loop-left.invariant c.loop-left-test.true c.write_bits.ensures

pub returns : goal.returns
returns c = end-zeros _ _ c.loop-left.invariant c.write_bits-2.ensures
