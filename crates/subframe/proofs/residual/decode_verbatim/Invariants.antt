-- `decode_verbatim`: each turn stores one sample (Filling). Assumes nothing.
use Rattle.rfc9639.specs.Integers.{signed_bits}
use Rattle.subframe.proofs.FilledSlices.{Filling}
use Rattle.subframe.proofs.residual.decode_verbatim.Given as goal

abbrev pub invariant-loop-x : goal.invariant-loop-x
invariant-loop-x l = Filling (signed_bits l.width) l.s l.initial.p l.initial.out l.out l.x-index l.p
