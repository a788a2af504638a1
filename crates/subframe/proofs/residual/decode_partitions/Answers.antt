-- `decode_partitions`: the first partition, then the others, each into its part of the slice. Assumes nothing.
use Prim.Native.Nat.{◌-◌}
use native.Mathlib.Omega.{arith}
use mathlib.Core.Path.{ap, ◌∙◌}
use lib.ListN.{replicate}
use Rattle.reading.specs.Readers.{each}
use Rattle.rfc9639.specs.Residual.{partition}
use Rattle.subframe.specs.Answers.{samples_at}
use Rattle.subframe.proofs.SliceParts.{front-got, front-stops, parts-put}
use Rattle.subframe.proofs.Partitions.{first_then}
use Rattle.subframe.proofs.residual.decode_partitions.Goals as goal

pub returns-in_err-p : goal.returns-in_err-p
unfolding each
returns-in_err-p c =
    let a = c.args in
    front-stops (partition a.method) a.s.now a.at (a.size - a.warm) a.out.now (omega arith) _ _ _ c.from_residual.ensures.1 c.in_err-p.ensures _

pub returns : goal.returns
returns c =
    let a = c.args in let d = c.decode_partition in let r = c.decode_equal_partitions in
    ap (samples_at r.result) (parts-put (a.size - a.warm) a.out.now (omega arith) d.new.out d.auto.out r.new.out)
    ∙ first_then (partition a.method) (a.size - a.warm) (replicate a.count a.size) a.s.now a.at
    (front-got (partition a.method) a.s.now a.at (a.size - a.warm) a.out.now (omega arith) c.in_ok-p.ensures) r.result r.new.out r.ensures
