-- The bit depth and the reserved bit, as the definition reads them. Assumes nothing.
use borrow.Author.Tests.{eq-eqb, ne_eqb}
use mathlib.Core.Path.{refl, sym, ◌∙◌}
use Rattle.reading.specs.Readers.{bits}
use Rattle.reading.proofs.ByteRuns.{stays_in, bind_got_lem}
use Rattle.error.proofs.Refusals.{bind_refusal}
use Rattle.rfc9639.specs.Header.{depth_and_zero}
use Rattle.demands.proofs.Headers.{depth_holds}
use Rattle.header.proofs.ReaderSteps.{bits_read, exits_by, check_fails, check_done, known-done, known-stops}
use Rattle.header.proofs.read_depth.Goals as goal

pub returns-in_err-code : goal.returns-in_err-code
unfolding depth_and_zero
returns-in_err-code c = exits_by _ _ c.from_residual.ensures.1 (bind_refusal (bits 3) _ _ _ _ (bits_read 3 _ _ refl c.in_err-code.ensures))

pub returns-in_err-depth : goal.returns-in_err-depth
unfolding depth_and_zero
returns-in_err-depth c =
    let e = bits_read 3 _ _ refl c.in_ok-code.ensures in
    exits_by _ _ c.from_residual-in_err-depth.ensures.1
    (bind_got_lem (bits 3) _ _ _ e ∙ known-stops _ _ _ _ _ (depth_holds _) (stays_in (bits 3) _ _ e) c.in_err-depth.ensures)

pub returns-in_err-reserved : goal.returns-in_err-reserved
unfolding depth_and_zero
returns-in_err-reserved c =
    exits_by _ _ c.from_residual-in_err-reserved.ensures.1
    (bind_got_lem (bits 3) _ _ _ (bits_read 3 _ _ refl c.in_ok-code.ensures) ∙ known-done _ _ _ _ c.in_ok-depth.ensures
    ∙ bind_refusal (bits 1) _ _ _ _ (bits_read 1 _ _ refl c.in_err-reserved.ensures))

pub returns-then-reserved-ne0 : goal.returns-then-reserved-ne0
unfolding depth_and_zero
returns-then-reserved-ne0 c =
    sym
    (bind_got_lem (bits 3) _ _ _ (bits_read 3 _ _ refl c.in_ok-code.ensures) ∙ known-done _ _ _ _ c.in_ok-depth.ensures
    ∙ check_fails (bits 1) _ _ _ 4 (bits_read 1 _ _ refl c.in_ok-reserved.ensures) _ (ne_eqb _ _ c.if-reserved-ne0.true))

pub returns : goal.returns
unfolding depth_and_zero
returns c =
    sym
    (bind_got_lem (bits 3) _ _ _ (bits_read 3 _ _ refl c.in_ok-code.ensures) ∙ known-done _ _ _ _ c.in_ok-depth.ensures
    ∙ check_done (bits 1) _ _ _ 4 (bits_read 1 _ _ refl c.in_ok-reserved.ensures) _ (eq-eqb _ _ c.if-reserved-ne0.false))
