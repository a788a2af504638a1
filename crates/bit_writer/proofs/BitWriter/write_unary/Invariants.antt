-- Zeros by 32, then the rest with the one; the loop's invariant is BitsLeft. Assumes nothing.
use Rattle.reading.specs.NumbersAsBits.{unary}
use Rattle.bit_writer.proofs.BitLoops.{BitsLeft}
use Rattle.bit_writer.proofs.BitWriter.write_unary.Given as goal

abbrev pub invariant-loop-left : goal.invariant-loop-left
invariant-loop-left l = BitsLeft (unary l.q) l.initial.self (unary l.left) l.self

abbrev pub decreases-loop-left : goal.decreases-loop-left
decreases-loop-left l = l.left
