-- The mark, as the definition reads it. Assumes nothing.
use borrow.Author.Rules.{rules}
use borrow.Author.Tests.{eq-eqb, ne_eqb}
use mathlib.Core.Path.{ap, ◌∙◌}
use Rattle.error.specs.Answers.{passed_at}
use Rattle.rfc9639.specs.StreamHeader.{mark}
use Rattle.stream.proofs.ReadSteps.{exit, number, no_number, passes_last, fails_last}
use Rattle.stream.proofs.read_mark.Goals as goal

pub returns-in_err-v : goal.returns-in_err-v
unfolding mark
returns-in_err-v c = ap passed_at (exit _ _ c.from_residual.ensures.1) ∙ no_number 32 _ _ _ (search rules) _ c.in_err-v.ensures

pub returns-then-v-ne-STREAM_MARK : goal.returns-then-v-ne-STREAM_MARK
unfolding mark
returns-then-v-ne-STREAM_MARK c = number 32 _ _ _ (search rules) c.in_ok-v.ensures (λ i. fails_last _ _ _ _ i (ne_eqb _ _ c.if-v-ne-STREAM_MARK.true))

pub returns : goal.returns
unfolding mark
returns c = number 32 _ _ _ (search rules) c.in_ok-v.ensures (λ i. passes_last _ _ _ _ i (eq-eqb _ _ c.if-v-ne-STREAM_MARK.false))
