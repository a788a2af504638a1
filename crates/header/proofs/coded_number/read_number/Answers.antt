-- The coded number: its first byte, then the bytes that it announces. Assumes nothing.
use mathlib.Core.Path.{refl, sym, ◌∙◌}
use Rattle.reading.specs.Readers.{bits}
use Rattle.reading.proofs.ByteRuns.{stays_in, in_inside, bits_below, bind_got_lem}
use Rattle.error.proofs.Refusals.{bind_refusal}
use Rattle.rfc9639.specs.Number.{coded_number}
use Rattle.header.proofs.ReaderSteps.{bits_read, exits_by}
use Rattle.header.proofs.coded_number.read_number.Goals as goal

pub returns-in_err-b : goal.returns-in_err-b
unfolding coded_number
returns-in_err-b c = exits_by _ _ c.from_residual.ensures.1 (bind_refusal (bits 8) _ _ _ _ (bits_read 8 _ _ refl c.in_err-b.ensures))

pub read_number_from-requires : goal.read_number_from-requires
read_number_from-requires c = let e = bits_read 8 _ _ refl c.in_ok-b.ensures in (bits_below 8 _ _ e, in_inside _ _ (stays_in (bits 8) _ _ e))

pub returns : goal.returns
unfolding coded_number
returns c = c.read_number_from.ensures ∙ sym (bind_got_lem (bits 8) _ _ _ (bits_read 8 _ _ refl c.in_ok-b.ensures))
