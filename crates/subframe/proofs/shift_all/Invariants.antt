-- `shift_all`: each turn shifts one number (Mapped). Assumes nothing.
use Rattle.subframe.proofs.DecodedSubframes.{Mapped}
use Rattle.rfc9639.specs.Integers.{shift_up}
use Rattle.subframe.proofs.shift_all.Given as goal

abbrev pub invariant-loop-x : goal.invariant-loop-x
invariant-loop-x l = Mapped (shift_up l.wasted) l.initial.out l.out l.x-index
