-- `read_kind`: the type and the wasted bits, as the definition reads them. Assumes nothing.
use borrow.Author.Rules.{rules}
use mathlib.Core.Path.{sym}
use Rattle.rfc9639.specs.Subframe.{kind_and_wasted}
use Rattle.reading.specs.Readers.{bits}
use Rattle.error.proofs.Refusals.{exits}
use Rattle.input.proofs.Callers.{read_exact}
use Rattle.subframe.proofs.SliceParts.{read_stops}
use Rattle.subframe.proofs.HeaderFields.{type_refused, kind_got, kind_stops}
use Rattle.subframe.proofs.header.read_kind.Goals as goal

pub returns-in_err-code : goal.returns-in_err-code
unfolding kind_and_wasted
returns-in_err-code c = exits (bits 6) _ _ _ _ _ c.from_residual.ensures.1 (read_exact 6 _ _ (search rules) c.in_err-code.ensures)

pub returns-in_err-kind : goal.returns-in_err-kind
returns-in_err-kind c =
    read_stops _ _ c.from_residual-in_err-kind.ensures.1
    (type_refused _ _ _ (sym (read_exact 6 _ _ (search rules) c.in_ok-code.ensures)) _ c.in_err-kind.ensures)

pub returns-in_err-wasted : goal.returns-in_err-wasted
returns-in_err-wasted c =
    read_stops _ _ c.from_residual-in_err-wasted.ensures.1
    (sym
    (kind_stops _ _ _ (sym (read_exact 6 _ _ (search rules) c.in_ok-code.ensures)) c.in_ok-kind.ensures _ (sym c.in_err-wasted.ensures)))

pub returns : goal.returns
returns c =
    sym (kind_got _ _ _ (sym (read_exact 6 _ _ (search rules) c.in_ok-code.ensures)) c.in_ok-kind.ensures (sym c.in_ok-wasted.ensures))
