-- `decode_escaped`: the width, then the residuals stored in it. Assumes nothing.
use native.Mathlib.Omega.{arith}
use Rattle.subframe.proofs.Partitions.{field_below, width_refused, escaped_by_width}
use Rattle.subframe.proofs.residual.decode_escaped.Goals as goal

pub returns-in_err-width : goal.returns-in_err-width
returns-in_err-width c = width_refused _ _ _ _ _ c.from_residual.ensures.1 c.in_err-width.ensures _

pub overflow_cast-width : goal.overflow_cast-width
overflow_cast-width c = record { fits = omega (arith, field_below _ _ _ (omega arith) c.in_ok-width.ensures) }

pub decode_verbatim-requires : goal.decode_verbatim-requires
decode_verbatim-requires c = omega (arith, field_below _ _ _ (omega arith) c.in_ok-width.ensures)

pub returns : goal.returns
returns c = escaped_by_width _ _ _ c.in_ok-width.ensures c.decode_verbatim.ensures
