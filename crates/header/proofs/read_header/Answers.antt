-- The header at the start of the input: its first four bytes, then the rest. Assumes nothing.
use mathlib.Core.Path.{sym, ◌∙◌}
use Rattle.reading.proofs.ByteRuns.{bind_got_lem}
use Rattle.error.proofs.Refusals.{bind_refusal}
use Rattle.rfc9639.specs.Header.{codes, header}
use Rattle.header.proofs.ReaderSteps.{exits_by}
use Rattle.header.proofs.HeaderParts.{codes-coded, codes-aligned}
use Rattle.header.proofs.read_header.Goals as goal

pub returns-in_err-c : goal.returns-in_err-c
unfolding header
returns-in_err-c c = exits_by _ _ c.from_residual.ensures.1 (bind_refusal codes _ _ _ _ (sym c.in_err-c.ensures))

pub read_header_after_codes-requires : goal.read_header_after_codes-requires
read_header_after_codes-requires c = let e = sym c.in_ok-c.ensures in let k = codes-coded _ e in (codes-aligned _ e, k.blocking, k.size)

pub returns : goal.returns
unfolding header
returns c = c.read_header_after_codes.ensures ∙ sym (bind_got_lem codes _ _ _ (sym c.in_ok-c.ensures))
