-- A block's first byte, as the definition reads it. Assumes nothing.
use borrow.Author.Rules.{rules}
use borrow.Author.Tests.{lt-ltb, le-ltb}
use native.Mathlib.Omega.{arith}
use mathlib.Core.Path.{ap, ◌∙◌}
use Rattle.error.specs.Answers.{read_at}
use Rattle.rfc9639.specs.StreamHeader.{last_and_type}
use Rattle.stream.proofs.ReadSteps.{exit, number, no_number, number_below, passes, fails, ends}
use Rattle.stream.proofs.read_last_and_type.Goals as goal

pub returns-in_err-last : goal.returns-in_err-last
unfolding last_and_type
returns-in_err-last c = ap read_at (exit _ _ c.from_residual.ensures.1) ∙ no_number 1 _ _ _ (search rules) _ c.in_err-last.ensures

pub returns-in_err-kind : goal.returns-in_err-kind
unfolding last_and_type
returns-in_err-kind c =
    number 1 _ _ _ (search rules) c.in_ok-last.ensures
    (λ _. ap read_at (exit _ _ c.from_residual-in_err-kind.ensures.1) ∙ no_number 7 _ _ _ (search rules) _ c.in_err-kind.ensures)

pub returns-then-kind-eq127 : goal.returns-then-kind-eq127
unfolding last_and_type
returns-then-kind-eq127 c =
    number 1 _ _ _ (search rules) c.in_ok-last.ensures
    (λ _. number 7 _ _ _ (search rules) c.in_ok-kind.ensures (λ i. fails _ _ _ _ _ i (le-ltb c.in_ok-kind.kind 127 (omega arith))))

pub returns : goal.returns
unfolding last_and_type
returns c =
    number 1 _ _ _ (search rules) c.in_ok-last.ensures
    (λ _. number 7 _ _ _ (search rules) c.in_ok-kind.ensures
    (λ i. passes _ _ _ _ _ i (lt-ltb c.in_ok-kind.kind 127 (omega (arith, number_below 7 _ _ (search rules) c.in_ok-kind.ensures))) (ends _ _ _ i)))
