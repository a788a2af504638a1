-- The sample rate, the channels and the bits of a sample, as the definition reads them. Assumes nothing.
use borrow.Author.Rules.{rules}
use borrow.Author.Tests.{le-leb, lt-leb}
use native.Mathlib.Omega.{arith}
use mathlib.Core.Path.{ap, ◌∙◌}
use Rattle.error.specs.Answers.{read_at}
use Rattle.rfc9639.specs.StreamHeader.{rate_channels_and_bits}
use Rattle.stream.proofs.ReadSteps.{exit, number, no_number, number_below, passes, fails, ends}
use Rattle.stream.proofs.read_format.Goals as goal

pub returns-in_err-rate : goal.returns-in_err-rate
unfolding rate_channels_and_bits
returns-in_err-rate c = ap read_at (exit _ _ c.from_residual.ensures.1) ∙ no_number 20 _ _ _ (search rules) _ c.in_err-rate.ensures

pub returns-in_err-channels : goal.returns-in_err-channels
unfolding rate_channels_and_bits
returns-in_err-channels c =
    number 20 _ _ _ (search rules) c.in_ok-rate.ensures
    (λ _. ap read_at (exit _ _ c.from_residual-in_err-channels.ensures.1) ∙ no_number 3 _ _ _ (search rules) _ c.in_err-channels.ensures)

pub returns-in_err-bits : goal.returns-in_err-bits
unfolding rate_channels_and_bits
returns-in_err-bits c =
    number 20 _ _ _ (search rules) c.in_ok-rate.ensures
    (λ _. number 3 _ _ _ (search rules) c.in_ok-channels.ensures
    (λ _. ap read_at (exit _ _ c.from_residual-in_err-bits.ensures.1) ∙ no_number 5 _ _ _ (search rules) _ c.in_err-bits.ensures))

pub overflow_add-bits : goal.overflow_add-bits
overflow_add-bits c = omega (arith, number_below 5 _ _ (search rules) c.in_ok-bits.ensures)

pub returns-then-bits-lt4 : goal.returns-then-bits-lt4
unfolding rate_channels_and_bits
returns-then-bits-lt4 c =
    number 20 _ _ _ (search rules) c.in_ok-rate.ensures
    (λ _. number 3 _ _ _ (search rules) c.in_ok-channels.ensures
    (λ _. number 5 _ _ _ (search rules) c.in_ok-bits.ensures (λ i. fails _ _ _ _ _ i (lt-leb _ _ c.if-bits-lt4.true))))

pub overflow_cast-result : goal.overflow_cast-result
overflow_cast-result c = omega (arith, number_below 20 _ _ (search rules) c.in_ok-rate.ensures)

pub overflow_cast-result-2 : goal.overflow_cast-result-2
overflow_cast-result-2 c = omega (arith, number_below 3 _ _ (search rules) c.in_ok-channels.ensures)

pub overflow_add-result : goal.overflow_add-result
overflow_add-result c = omega (arith, number_below 3 _ _ (search rules) c.in_ok-channels.ensures)

pub overflow_cast-result-3 : goal.overflow_cast-result-3
overflow_cast-result-3 c = omega (arith, number_below 5 _ _ (search rules) c.in_ok-bits.ensures)

pub overflow_add-result-2 : goal.overflow_add-result-2
overflow_add-result-2 c = omega (arith, number_below 5 _ _ (search rules) c.in_ok-bits.ensures)

pub returns : goal.returns
unfolding rate_channels_and_bits
returns c =
    number 20 _ _ _ (search rules) c.in_ok-rate.ensures
    (λ _. number 3 _ _ _ (search rules) c.in_ok-channels.ensures
    (λ _. number 5 _ _ _ (search rules) c.in_ok-bits.ensures (λ i. passes _ _ _ _ _ i (le-leb _ _ c.if-bits-lt4.false) (ends _ _ _ i))))
