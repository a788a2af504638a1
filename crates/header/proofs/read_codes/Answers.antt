-- The first four bytes, as the definition reads them. Assumes nothing.
use mathlib.Core.Path.{sym, ◌∙◌}
use Rattle.reading.proofs.ByteRuns.{bind_got_lem}
use Rattle.error.proofs.Refusals.{bind_refusal}
use Rattle.rfc9639.specs.Header.{sync, size_and_rate, channels_and_bits, codes}
use Rattle.header.proofs.ReaderSteps.{exits_by, then_done}
use Rattle.header.proofs.read_codes.Goals as goal

pub returns-in_err-blocking : goal.returns-in_err-blocking
unfolding codes
returns-in_err-blocking c = exits_by _ _ c.from_residual.ensures.1 (bind_refusal sync _ _ _ _ (sym c.in_err-blocking.ensures))

pub returns-in_err-size : goal.returns-in_err-size
unfolding codes
returns-in_err-size c =
    exits_by _ _ c.from_residual-in_err-size.ensures.1
    (bind_got_lem sync _ _ _ (sym c.in_ok-blocking.ensures) ∙ bind_refusal size_and_rate _ _ _ _ (sym c.in_err-size.ensures))

pub returns-in_err-channels : goal.returns-in_err-channels
unfolding codes
returns-in_err-channels c =
    exits_by _ _ c.from_residual-in_err-channels.ensures.1
    (bind_got_lem sync _ _ _ (sym c.in_ok-blocking.ensures) ∙ bind_got_lem size_and_rate _ _ _ (sym c.in_ok-size.ensures)
    ∙ bind_refusal channels_and_bits _ _ _ _ (sym c.in_err-channels.ensures))

pub returns : goal.returns
unfolding codes
returns c =
    sym
    (bind_got_lem sync _ _ _ (sym c.in_ok-blocking.ensures) ∙ bind_got_lem size_and_rate _ _ _ (sym c.in_ok-size.ensures)
    ∙ then_done channels_and_bits _ _ _ (sym c.in_ok-channels.ensures))
