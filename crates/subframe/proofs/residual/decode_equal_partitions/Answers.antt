-- `decode_equal_partitions`: each turn decodes one partition into its part of the slice (Parted). Assumes nothing.
use native.Mathlib.Nat.{sub-zero}
use native.Mathlib.Omega.{arith}
use mathlib.Core.Path.{sym, ◌∙◌}
use Rattle.reading.proofs.ByteRuns.{inside_in, run_at-out}
use Rattle.subframe.proofs.Partitions.{begin, step, stops, end}
use Rattle.subframe.proofs.residual.decode_equal_partitions.Goals as goal

pub returns-then-not-is_inside : goal.returns-then-not-is_inside
returns-then-not-is_inside c = sym (run_at-out _ _ _ (sym c.is_inside.ensures ∙ c.if-not-is_inside.true))

pub loop-init : goal.loop-init
loop-init c = rw sub-zero (begin _ _ _ _ (inside_in _ _ (sym c.is_inside.ensures ∙ c.if-not-is_inside.false)) c.requires.1)

pub loop-preserved : goal.loop-preserved
loop-preserved c =
    step c.loop.invariant (omega arith) (omega arith) c.in_ok-p.ensures c.decode_partition.auto.out

pub returns-in_err-p : goal.returns-in_err-p
returns-in_err-p c = stops c.loop.invariant (omega arith) _ _ c.from_residual.ensures.1 c.in_err-p.ensures _

pub returns : goal.returns
returns c = end c.loop.invariant (omega arith)
