-- `read_bits_by_bytes`: the bits that are still to be read complete the answer (Unread). Assumes nothing.
use Rattle.input.proofs.ReadLoops.{Unread}
use Rattle.input.proofs.read_bits_by_bytes.Given as goal

abbrev pub invariant-loop-left : goal.invariant-loop-left
invariant-loop-left l = Unread l.s l.n l.initial.p l.left l.acc l.p

abbrev pub decreases-loop-left : goal.decreases-loop-left
decreases-loop-left l = l.left
