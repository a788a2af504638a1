-- The codes of the size and of the rate, as the definition reads them. Assumes nothing.
use borrow.Author.Tests.{lt-ltb, le-ltb}
use native.Mathlib.Omega.{arith}
use mathlib.Core.Path.{refl, sym, ◌∙◌}
use lib.Dec.{ltb}
use Rattle.reading.specs.Readers.{bits}
use Rattle.reading.proofs.ByteRuns.{bits_below}
use Rattle.error.proofs.Refusals.{bind_refusal}
use Rattle.rfc9639.specs.Header.{size_and_rate}
use Rattle.header.proofs.ReaderSteps.{bits_read, exits_by, check_fails, check_holds, check_done}
use Rattle.header.proofs.read_size_and_rate.Goals as goal

pub returns-in_err-size : goal.returns-in_err-size
unfolding size_and_rate
returns-in_err-size c = exits_by _ _ c.from_residual.ensures.1 (bind_refusal (bits 4) _ _ _ _ (bits_read 4 _ _ refl c.in_err-size.ensures))

pub returns-then-size-eq0 : goal.returns-then-size-eq0
unfolding size_and_rate
returns-then-size-eq0 c = sym (check_fails (bits 4) _ _ (ltb 0) 4 (bits_read 4 _ _ refl c.in_ok-size.ensures) _ (le-ltb 0 c.in_ok-size.size (omega arith)))

pub returns-in_err-rate : goal.returns-in_err-rate
unfolding size_and_rate
returns-in_err-rate c =
    exits_by _ _ c.from_residual-in_err-rate.ensures.1
    (check_holds (bits 4) _ _ (ltb 0) 4 (bits_read 4 _ _ refl c.in_ok-size.ensures) _ (lt-ltb 0 c.in_ok-size.size (omega arith))
    ∙ bind_refusal (bits 4) _ _ _ _ (bits_read 4 _ _ refl c.in_err-rate.ensures))

pub returns-then-rate-eq15 : goal.returns-then-rate-eq15
unfolding size_and_rate
returns-then-rate-eq15 c =
    sym
    (check_holds (bits 4) _ _ (ltb 0) 4 (bits_read 4 _ _ refl c.in_ok-size.ensures) _ (lt-ltb 0 c.in_ok-size.size (omega arith))
    ∙ check_fails (bits 4) _ _ (λ x. ltb x 15) 4 (bits_read 4 _ _ refl c.in_ok-rate.ensures) _ (le-ltb c.in_ok-rate.rate 15 (omega arith)))

pub returns : goal.returns
unfolding size_and_rate
returns c =
    let e = bits_read 4 _ _ refl c.in_ok-rate.ensures in
    sym
    (check_holds (bits 4) _ _ (ltb 0) 4 (bits_read 4 _ _ refl c.in_ok-size.ensures) _ (lt-ltb 0 c.in_ok-size.size (omega arith))
    ∙ check_done (bits 4) _ _ (λ x. ltb x 15) 4 e _ (lt-ltb c.in_ok-rate.rate 15 (omega (arith, bits_below 4 _ _ e))))
