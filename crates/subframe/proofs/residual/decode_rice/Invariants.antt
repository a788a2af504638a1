-- `decode_rice`: each turn stores one residual (Filling). Assumes nothing.
use Prim.Native.Nat.{◌<◌}
use Rattle.rfc9639.specs.Residual.{rice}
use Rattle.subframe.specs.Private.{place_after}
use Rattle.subframe.proofs.FilledSlices.{Filling}
use Rattle.subframe.proofs.residual.decode_rice.Given as goal

abbrev pub invariant-loop-x : goal.invariant-loop-x
invariant-loop-x l = Filling (rice l.k) l.s l.fn.at l.initial.out l.out l.x-index (place_after l.p) × (l.p.bits < 64)
