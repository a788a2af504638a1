-- `read_subframe_header`: a header, as the definition reads it. Assumes nothing.
use borrow.Author.Rules.{rules}
use mathlib.Core.Path.{sym, ◌∙◌}
use Rattle.rfc9639.specs.Subframe.{subframe_header}
use Rattle.reading.specs.Readers.{bits}
use Rattle.error.proofs.Refusals.{exits}
use Rattle.input.proofs.Callers.{read_exact}
use Rattle.subframe.proofs.HeaderFields.{zero_bit-set, zero_bit_clear}
use Rattle.subframe.proofs.header.read_subframe_header.Goals as goal

pub returns-in_err-v : goal.returns-in_err-v
unfolding subframe_header
returns-in_err-v c = exits (bits 1) _ _ _ _ _ c.from_residual.ensures.1 (read_exact 1 _ _ (search rules) c.in_err-v.ensures)

pub returns-then-v-ne0 : goal.returns-then-v-ne0
returns-then-v-ne0 c = sym (zero_bit-set _ _ _ (sym (read_exact 1 _ _ (search rules) c.in_ok-v.ensures)) c.if-v-ne0.true)

pub returns : goal.returns
returns c = c.read_kind.ensures ∙ sym (zero_bit_clear _ _ _ (sym (read_exact 1 _ _ (search rules) c.in_ok-v.ensures)) c.if-v-ne0.false)
