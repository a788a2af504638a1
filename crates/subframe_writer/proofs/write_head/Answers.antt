-- `write_head` meets its contract, field by field. Assumes nothing.
use Rattle.reading.proofs.NumbersAsBits.{binary-bits_of}
use Rattle.rfc9639.specs.SubframeCoding.{subframe_header_bits}
use Rattle.bit_writer.proofs.ConsecutiveWrites.{appended_once, appended_after, append_then}
use Rattle.subframe_writer.proofs.write_head.Goals as goal

pub returns : goal.returns
unfolding subframe_header_bits
returns c =
    append_then (appended_after (appended_once (binary-bits_of 1 0) c.write_bits.ensures) (binary-bits_of 6 _) c.write_bits-2.ensures) _ c.write_bits-3.ensures
