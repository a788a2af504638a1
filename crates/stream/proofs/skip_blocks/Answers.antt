-- All blocks up to the last one, as the definition reads them; each turn of the loop is nearer to the end of the input.
-- Assumes nothing.
use mathlib.Core.Path.{ap, sym, ◌∙◌}
use Rattle.error.specs.Answers.{passed_at}
use Rattle.stream.proofs.ReadSteps.{exit}
use Rattle.stream.proofs.SkippedBlocks.{begin, block_refused, last_block, step, less}
use Rattle.stream.proofs.skip_blocks.Goals as goal

pub loop-last-init : goal.loop-last-init
loop-last-init c = begin _ _ c.requires.0 c.requires.1

pub returns-in_err-last : goal.returns-in_err-last
returns-in_err-last c = ap passed_at (exit _ _ c.from_residual.ensures.1) ∙ sym (block_refused _ _ c.loop-last.invariant _ (sym c.in_err-last.ensures))

pub returns-then-last : goal.returns-then-last
returns-then-last c = sym (last_block _ _ c.loop-last.invariant (sym c.in_ok-last.ensures) c.if-last.true)

pub loop-last-smaller : goal.loop-last-smaller
loop-last-smaller c = less _ _ c.loop-last.invariant (sym c.in_ok-last.ensures)

pub loop-last-preserved : goal.loop-last-preserved
loop-last-preserved c = step _ _ c.loop-last.invariant (sym c.in_ok-last.ensures) c.if-last.false
