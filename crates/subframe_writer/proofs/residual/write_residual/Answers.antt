-- `write_residual` meets its contract, field by field. Assumes nothing.
use Rattle.reading.proofs.NumbersAsBits.{binary-bits_of}
use Rattle.rfc9639.specs.SubframeCoding.{residual_bits}
use Rattle.bit_writer.proofs.ConsecutiveWrites.{appended_once, appended_after, append_then}
use Rattle.subframe_writer.proofs.residual.write_residual.Goals as goal

pub returns : goal.returns
unfolding residual_bits
returns c =
    let method_and_order = appended_after (appended_once (binary-bits_of 2 0) c.write_bits.ensures) (binary-bits_of 4 0) c.write_bits-2.ensures in
    append_then (appended_after method_and_order (binary-bits_of 4 _) c.write_bits-3.ensures) _ c.write_rices.ensures
