-- The MD5, as the definition reads it. Assumes nothing.
use borrow.Author.Rules.{rules}
use mathlib.Core.Path.{ap, ◌∙◌}
use Rattle.error.specs.Answers.{read_at}
use Rattle.rfc9639.specs.StreamHeader.{md5}
use Rattle.stream.proofs.ReadSteps.{exit, number, no_number, ends}
use Rattle.stream.proofs.read_md5.Goals as goal

pub returns-in_err-high : goal.returns-in_err-high
unfolding md5
returns-in_err-high c = ap read_at (exit _ _ c.from_residual.ensures.1) ∙ no_number 64 _ _ _ (search rules) _ c.in_err-high.ensures

pub returns-in_err-low : goal.returns-in_err-low
unfolding md5
returns-in_err-low c =
    number 64 _ _ _ (search rules) c.in_ok-high.ensures
    (λ _. ap read_at (exit _ _ c.from_residual-in_err-low.ensures.1) ∙ no_number 64 _ _ _ (search rules) _ c.in_err-low.ensures)

pub returns : goal.returns
unfolding md5
returns c = number 64 _ _ _ (search rules) c.in_ok-high.ensures (λ _. number 64 _ _ _ (search rules) c.in_ok-low.ensures (λ i. ends _ _ _ i))
