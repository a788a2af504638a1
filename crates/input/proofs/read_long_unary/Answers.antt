-- `read_long_unary`: the zeros that are still to be read complete the count (Passed). Assumes nothing.
use native.Mathlib.Omega.{arith}
use mathlib.Core.Path.{refl, ◌∙◌}
use Rattle.reading.proofs.Words.{taken_word, byte_at}
use Rattle.input.proofs.ReadLoops.{begin-zeros, step-zeros, out-zeros, end-zeros, below}
use Rattle.input.proofs.read_long_unary.Goals as goal

pub loop-next-init : goal.loop-next-init
loop-next-init c = begin-zeros _ _ (record { bit = omega arith; end = omega arith })

pub ended-requires : goal.ended-requires
ended-requires c = (below _ _ _ _ c.loop-next.invariant, omega arith, omega arith, omega arith)

pub returns-then-q-lt64 : goal.returns-then-q-lt64
returns-then-q-lt64 c =
    c.ended.ensures
    ∙ end-zeros _ _ _ _ c.loop-next.invariant (omega arith) (taken_word c.word_at.ensures) refl c.if-q-lt64.true

pub more-count-requires : goal.more-count-requires
more-count-requires c = (below _ _ _ _ c.loop-next.invariant, omega arith)

pub loop-next-preserved : goal.loop-next-preserved
loop-next-preserved c =
    step-zeros _ _ _ _ c.loop-next.invariant (omega arith) (taken_word c.word_at.ensures) refl
    c.if-q-lt64.false (omega arith) c.more-count.ensures refl (omega arith)

pub loop-next-2-init : goal.loop-next-2-init
loop-next-2-init c = c.loop-next.invariant

pub ended-requires-then-q-lt8 : goal.ended-requires-then-q-lt8
ended-requires-then-q-lt8 c = (below _ _ _ _ c.loop-next-2.invariant, omega arith, omega arith, omega arith)

pub returns-then-q-lt8 : goal.returns-then-q-lt8
returns-then-q-lt8 c =
    c.ended-then-q-lt8.ensures
    ∙ end-zeros _ _ _ _ c.loop-next-2.invariant (omega arith) (byte_at _ _ (omega arith)) refl c.if-q-lt8.true

pub more-count-requires-in-loop-next-2 : goal.more-count-requires-in-loop-next-2
more-count-requires-in-loop-next-2 c = (below _ _ _ _ c.loop-next-2.invariant, omega arith)

pub loop-next-2-preserved : goal.loop-next-2-preserved
loop-next-2-preserved c =
    step-zeros _ _ _ _ c.loop-next-2.invariant (omega arith) (byte_at _ _ (omega arith)) refl
    c.if-q-lt8.false (omega arith) c.more-count-in-loop-next-2.ensures refl (omega arith)

pub returns : goal.returns
returns c = out-zeros _ _ _ _ c.loop-next-2.invariant (omega arith)
