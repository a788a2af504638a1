-- `decode_equal_partitions`: each turn decodes one partition into its part of the slice (Parted). Assumes nothing.
use Prim.Native.Nat.{◌-◌}
use Rattle.rfc9639.specs.Residual.{partition}
use Rattle.subframe.proofs.Partitions.{Parted}
use Rattle.subframe.proofs.residual.decode_equal_partitions.Given as goal

abbrev pub invariant-loop : goal.invariant-loop
invariant-loop l = Parted (partition l.method) l.size l.count l.s l.initial.p l.initial.out l.out l.start (l.count - l.counter) l.p
