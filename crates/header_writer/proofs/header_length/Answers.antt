-- The lengths of the parts. Assumes nothing.
use native.Mathlib.Omega.{arith}
use mathlib.Core.Path.{ap, ◌∙◌}
use lib.ListN.{length}
use Rattle.reading.proofs.NumbersAsBits.{length-bits_of}
use Rattle.rfc9639.proofs.LengthBound.{number_at-most, length_fields, length-header}
use Rattle.header_writer.proofs.header_length.Goals as goal

pub overflow_add-result : goal.overflow_add-result
overflow_add-result c = omega (arith, c.number_length.ensures, number_at-most c.args.set.number)

pub overflow_add-result-2 : goal.overflow_add-result-2
overflow_add-result-2 c = omega (arith, c.number_length.ensures, number_at-most c.args.set.number)

pub returns : goal.returns
returns c =
    let set = c.args.set in
    omega (arith, length-header set, length_fields set, c.number_length.ensures, ap length c.size_width.ensures ∙ length-bits_of _ _)
