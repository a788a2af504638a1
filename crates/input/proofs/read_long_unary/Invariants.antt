-- `read_long_unary`: the zeros that are still to be read complete the count (Passed). Assumes nothing.
use Prim.Native.Nat.{◌-◌}
use lib.ListN.{length}
use Rattle.input.proofs.ReadLoops.{Passed}
use Rattle.input.proofs.read_long_unary.Given as goal

abbrev pub invariant-loop-next : goal.invariant-loop-next
invariant-loop-next l = Passed l.s (record { byte = l.byte; bit = l.bit }) l.count (record { byte = l.next; bit = l.before })

abbrev pub decreases-loop-next : goal.decreases-loop-next
decreases-loop-next l = length l.s - l.next

abbrev pub invariant-loop-next-2 : goal.invariant-loop-next-2
invariant-loop-next-2 l = Passed l.s (record { byte = l.byte; bit = l.bit }) l.count (record { byte = l.next; bit = l.before })

abbrev pub decreases-loop-next-2 : goal.decreases-loop-next-2
decreases-loop-next-2 l = length l.s - l.next
