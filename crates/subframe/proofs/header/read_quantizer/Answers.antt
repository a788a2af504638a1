-- `read_quantizer`: the precision and the shift, as the definition reads them. Assumes nothing.
use borrow.Author.Rules.{rules}
use native.Mathlib.Omega.{arith}
use mathlib.Core.Path.{sym}
use Rattle.rfc9639.specs.Subframe.{quantization}
use Rattle.reading.specs.Readers.{bits}
use Rattle.reading.proofs.ByteRuns.{bits_below}
use Rattle.error.proofs.Refusals.{exits}
use Rattle.input.proofs.Callers.{read_exact}
use Rattle.subframe.proofs.SliceParts.{read_stops}
use Rattle.subframe.proofs.HeaderFields.{precision_reserved, shift_refused, shift_negative, quantization-known}
use Rattle.subframe.proofs.header.read_quantizer.Goals as goal

pub returns-in_err-precision : goal.returns-in_err-precision
unfolding quantization
returns-in_err-precision c = exits (bits 4) _ _ _ _ _ c.from_residual.ensures.1 (read_exact 4 _ _ (search rules) c.in_err-precision.ensures)

pub returns-then-precision-eq15 : goal.returns-then-precision-eq15
returns-then-precision-eq15 c = sym (precision_reserved _ _ (sym (read_exact 4 _ _ (search rules) c.in_ok-precision.ensures)) c.if-precision-eq15.true)

pub returns-in_err-shift : goal.returns-in_err-shift
returns-in_err-shift c =
    let got = sym (read_exact 4 _ _ (search rules) c.in_ok-precision.ensures) in
    read_stops _ _ c.from_residual-in_err-shift.ensures.1
    (shift_refused _ _ got (omega (arith, bits_below 4 _ _ got, c.if-precision-eq15.false)) _ (read_exact 5 _ _ (search rules) c.in_err-shift.ensures))

pub returns-then-shift-ge16 : goal.returns-then-shift-ge16
returns-then-shift-ge16 c =
    let got = sym (read_exact 4 _ _ (search rules) c.in_ok-precision.ensures) in
    sym
    (shift_negative _ _ got (omega (arith, bits_below 4 _ _ got, c.if-precision-eq15.false)) (sym (read_exact 5 _ _ (search rules) c.in_ok-shift.ensures))
    c.if-shift-ge16.true)

pub overflow_cast-result : goal.overflow_cast-result
overflow_cast-result c =
    let got = sym (read_exact 4 _ _ (search rules) c.in_ok-precision.ensures) in omega (arith, bits_below 4 _ _ got, c.if-precision-eq15.false)

pub overflow_add-result : goal.overflow_add-result
overflow_add-result c =
    let got = sym (read_exact 4 _ _ (search rules) c.in_ok-precision.ensures) in omega (arith, bits_below 4 _ _ got, c.if-precision-eq15.false)

pub returns : goal.returns
returns c =
    let got = sym (read_exact 4 _ _ (search rules) c.in_ok-precision.ensures) in
    sym
    (quantization-known _ _ got (omega (arith, bits_below 4 _ _ got, c.if-precision-eq15.false)) (sym (read_exact 5 _ _ (search rules) c.in_ok-shift.ensures))
    c.if-shift-ge16.false)
