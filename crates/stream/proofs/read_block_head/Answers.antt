-- A later block's first four bytes, as the definition reads them. Assumes nothing.
use borrow.Author.Rules.{rules}
use mathlib.Core.Path.{ap, ◌∙◌}
use Rattle.error.specs.Answers.{read_at}
use Rattle.rfc9639.specs.StreamHeader.{last_and_type, block_head}
use Rattle.stream.proofs.ReadSteps.{exit, number, no_number, goes_on, refused_first, ends}
use Rattle.stream.proofs.read_block_head.Goals as goal

pub returns-in_err-last : goal.returns-in_err-last
unfolding block_head
returns-in_err-last c = ap read_at (exit _ _ c.from_residual.ensures.1) ∙ refused_first last_and_type _ _ _ _ c.in_err-last.ensures

pub returns-in_err-size : goal.returns-in_err-size
unfolding block_head
returns-in_err-size c =
    goes_on last_and_type _ _ _ c.in_ok-last.ensures
    (λ _. ap read_at (exit _ _ c.from_residual-in_err-size.ensures.1) ∙ no_number 24 _ _ _ (search rules) _ c.in_err-size.ensures)

pub returns : goal.returns
unfolding block_head
returns c = goes_on last_and_type _ _ _ c.in_ok-last.ensures (λ _. number 24 _ _ _ (search rules) c.in_ok-size.ensures (λ i. ends _ _ _ i))
