-- `read_bits_by_bytes`: the bits that are still to be read complete the answer (Unread). Assumes nothing.
use native.Mathlib.Omega.{arith}
use mathlib.Core.Path.{sym}
use Rattle.reading.proofs.ByteRuns.{inside_in}
use Rattle.input.specs.Answers.{low64}
use Rattle.input.proofs.MappedReplies.{ask_out}
use Rattle.input.proofs.ReadLoops.{begin, step, out, end, fits}
use Rattle.input.proofs.read_bits_by_bytes.Goals as goal

pub returns-then-not-is_inside : goal.returns-then-not-is_inside
unfolding low64
returns-then-not-is_inside c = sym (ask_out _ _ _ _ (cc c.if-not-is_inside.true))

pub loop-left-init : goal.loop-left-init
loop-left-init c = begin _ _ _ (inside_in _ _ (cc c.if-not-is_inside.false))

pub returns-then-s-byte : goal.returns-then-s-byte
returns-then-s-byte c = out _ _ _ _ _ _ c.loop-left.invariant (omega arith) (omega arith)

pub overflow_add-acc : goal.overflow_add-acc
overflow_add-acc c = record { fits = fits _ _ _ _ _ _ c.loop-left.invariant _ (omega arith) (omega arith) (omega arith) c.chunk.ensures }

pub loop-left-preserved : goal.loop-left-preserved
loop-left-preserved c =
    step _ _ _ _ _ _ c.loop-left.invariant _ (omega arith) (omega arith) (omega arith) c.chunk.ensures c.later-p.ensures

pub returns : goal.returns
returns c = end _ _ _ _ _ _ c.loop-left.invariant (omega arith)
