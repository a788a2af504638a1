-- The first block, as the definition reads it. Assumes nothing.
use borrow.Author.Rules.{rules}
use borrow.Author.Tests.{eq-eqb, ne_eqb}
use mathlib.Core.Path.{ap, ◌∙◌}
use Rattle.error.specs.Answers.{read_at}
use Rattle.rfc9639.specs.StreamHeader.{last_and_type, stream_info, first_block}
use Rattle.stream.proofs.ReadSteps.{exit, number, no_number, goes_on, refused_first, passes, fails, ends}
use Rattle.stream.proofs.read_first_block.Goals as goal

pub returns-in_err-last : goal.returns-in_err-last
unfolding first_block
returns-in_err-last c = ap read_at (exit _ _ c.from_residual.ensures.1) ∙ refused_first last_and_type _ _ _ _ c.in_err-last.ensures

pub returns-then-kind-ne0 : goal.returns-then-kind-ne0
unfolding first_block
returns-then-kind-ne0 c = goes_on last_and_type _ _ _ c.in_ok-last.ensures (λ i. fails _ _ _ _ _ i (ne_eqb _ _ c.if-kind-ne0.true))

pub returns-in_err-size : goal.returns-in_err-size
unfolding first_block
returns-in_err-size c =
    goes_on last_and_type _ _ _ c.in_ok-last.ensures
    (λ i. passes _ _ _ _ _ i (eq-eqb _ _ c.if-kind-ne0.false)
    (ap read_at (exit _ _ c.from_residual-in_err-size.ensures.1) ∙ no_number 24 _ _ _ (search rules) _ c.in_err-size.ensures))

pub returns-then-size-ne-STREAM_INFO_LENGTH : goal.returns-then-size-ne-STREAM_INFO_LENGTH
unfolding first_block
returns-then-size-ne-STREAM_INFO_LENGTH c =
    goes_on last_and_type _ _ _ c.in_ok-last.ensures
    (λ i. passes _ _ _ _ _ i (eq-eqb _ _ c.if-kind-ne0.false)
    (number 24 _ _ _ (search rules) c.in_ok-size.ensures (λ j. fails _ _ _ _ _ j (ne_eqb _ _ c.if-size-ne-STREAM_INFO_LENGTH.true))))

pub returns-in_err-info : goal.returns-in_err-info
unfolding first_block
returns-in_err-info c =
    goes_on last_and_type _ _ _ c.in_ok-last.ensures
    (λ i. passes _ _ _ _ _ i (eq-eqb _ _ c.if-kind-ne0.false)
    (number 24 _ _ _ (search rules) c.in_ok-size.ensures
    (λ j. passes _ _ _ _ _ j (eq-eqb _ _ c.if-size-ne-STREAM_INFO_LENGTH.false)
    (ap read_at (exit _ _ c.from_residual-in_err-info.ensures.1) ∙ refused_first stream_info _ _ _ _ c.in_err-info.ensures))))

pub returns : goal.returns
unfolding first_block
returns c =
    goes_on last_and_type _ _ _ c.in_ok-last.ensures
    (λ i. passes _ _ _ _ _ i (eq-eqb _ _ c.if-kind-ne0.false)
    (number 24 _ _ _ (search rules) c.in_ok-size.ensures
    (λ j. passes _ _ _ _ _ j (eq-eqb _ _ c.if-size-ne-STREAM_INFO_LENGTH.false) (goes_on stream_info _ _ _ c.in_ok-info.ensures (λ k. ends _ _ _ k)))))
