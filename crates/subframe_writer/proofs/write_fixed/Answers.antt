-- `write_fixed` meets its contract: the warm-up, then the residual. Assumes nothing.
use Rattle.reading.proofs.NumbersAsBits.{binary_append}
use Rattle.rfc9639.specs.SubframeCoding.{coded_as}
use Rattle.rfc9639.proofs.FrameBits.{bits-subframe_header_bits, bits-plain}
use Rattle.bit_writer.proofs.ConsecutiveWrites.{appended_once, append_then}
use Rattle.subframe_writer.proofs.write_fixed.Goals as goal

pub returns : goal.returns
unfolding coded_as
returns c =
    append_then (appended_once (binary_append (bits-subframe_header_bits _) (bits-plain _ _)) c.write_head_and_plain.ensures) _ c.write_residual.ensures
