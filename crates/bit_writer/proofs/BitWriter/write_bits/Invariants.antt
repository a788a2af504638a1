-- The loop inks the bits of the number, the highest first; its invariant is BitsLeft. Assumes nothing.
use Prim.Native.Nat.{◌≤◌}
use Rattle.reading.specs.NumbersAsBits.{bits_of}
use Rattle.bit_writer.proofs.BitLoops.{BitsLeft}
use Rattle.bit_writer.proofs.BitWriter.write_bits.Given as goal

abbrev pub invariant-loop-left : goal.invariant-loop-left
invariant-loop-left l = (l.left ≤ l.n) × BitsLeft (bits_of l.n l.v) l.initial.self (bits_of l.left l.v) l.self

abbrev pub decreases-loop-left : goal.decreases-loop-left
decreases-loop-left l = l.left
