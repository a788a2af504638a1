-- Two sizes, as the definition reads them. Assumes nothing.
use borrow.Author.Rules.{rules}
use native.Mathlib.Nat.{lt_of_lt_of_le}
use lib.Pow.{pow_mono}
use mathlib.Core.Path.{ap, ◌∙◌}
use Rattle.error.specs.Answers.{read_at}
use Rattle.rfc9639.specs.StreamHeader.{sizes}
use Rattle.stream.proofs.ReadSteps.{exit, number, no_number, number_below, ends}
use Rattle.stream.proofs.read_sizes.Goals as goal

pub returns-in_err-smallest : goal.returns-in_err-smallest
unfolding sizes
returns-in_err-smallest c = ap read_at (exit _ _ c.from_residual.ensures.1) ∙ no_number _ _ _ _ (search rules) _ c.in_err-smallest.ensures

pub returns-in_err-largest : goal.returns-in_err-largest
unfolding sizes
returns-in_err-largest c =
    number _ _ _ _ (search rules) c.in_ok-smallest.ensures
    (λ _. ap read_at (exit _ _ c.from_residual-in_err-largest.ensures.1) ∙ no_number _ _ _ _ (search rules) _ c.in_err-largest.ensures)

-- both fit 32 bits
pub overflow_cast-result : goal.overflow_cast-result
overflow_cast-result c = record { fits = lt_of_lt_of_le (number_below _ _ _ (search rules) c.in_ok-smallest.ensures) (pow_mono c.requires) }

pub overflow_cast-result-2 : goal.overflow_cast-result-2
overflow_cast-result-2 c = record { fits = lt_of_lt_of_le (number_below _ _ _ (search rules) c.in_ok-largest.ensures) (pow_mono c.requires) }

pub returns : goal.returns
unfolding sizes
returns c =
    number _ _ _ _ (search rules) c.in_ok-smallest.ensures (λ _. number _ _ _ _ (search rules) c.in_ok-largest.ensures (λ i. ends _ _ _ i))
