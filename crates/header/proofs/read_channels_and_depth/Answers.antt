-- The channels and the bit depth, as the definition reads them. Assumes nothing.
use borrow.Author.Tests.{le-leb, lt-leb}
use mathlib.Core.Path.{refl, sym, ap, ◌∙◌}
use Rattle.reading.specs.Readers.{bits}
use Rattle.reading.specs.Places.{got_at}
use Rattle.error.proofs.Refusals.{bind_refusal}
use Rattle.rfc9639.specs.Header.{depth_and_zero, channels_and_bits}
use Rattle.header.proofs.ReaderSteps.{bits_read, exits_by, then_done, check_fails, check_holds}
use Rattle.header.proofs.read_channels_and_depth.Goals as goal

pub returns-in_err-code : goal.returns-in_err-code
unfolding channels_and_bits
returns-in_err-code c = exits_by _ _ c.from_residual.ensures.1 (bind_refusal (bits 4) _ _ _ _ (bits_read 4 _ _ refl c.in_err-code.ensures))

pub returns-then-code-gt10 : goal.returns-then-code-gt10
unfolding channels_and_bits
returns-then-code-gt10 c = sym (check_fails (bits 4) _ _ _ 4 (bits_read 4 _ _ refl c.in_ok-code.ensures) _ (lt-leb _ _ c.if-code-gt10.true))

pub returns-in_err-depth : goal.returns-in_err-depth
unfolding channels_and_bits
returns-in_err-depth c =
    exits_by _ _ c.from_residual-in_err-depth.ensures.1
    (check_holds (bits 4) _ _ _ 4 (bits_read 4 _ _ refl c.in_ok-code.ensures) _ (le-leb _ _ c.if-code-gt10.false)
    ∙ bind_refusal depth_and_zero _ _ _ _ (sym c.in_err-depth.ensures))

pub returns : goal.returns
unfolding channels_and_bits
returns c =
    ap (λ a. got_at (a, c.in_ok-depth.depth) c.in_ok-depth.q) c.channel_assignment.ensures
    ∙ sym
    (check_holds (bits 4) _ _ _ 4 (bits_read 4 _ _ refl c.in_ok-code.ensures) _ (le-leb _ _ c.if-code-gt10.false)
    ∙ then_done depth_and_zero _ _ _ (sym c.in_ok-depth.ensures))
