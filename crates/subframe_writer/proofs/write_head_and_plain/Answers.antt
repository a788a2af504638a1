-- `write_head_and_plain` meets its contract: the header, then samples. Assumes nothing.
use Rattle.rfc9639.proofs.FrameBits.{bits-subframe_header_bits}
use Rattle.bit_writer.proofs.ConsecutiveWrites.{appended_once, append_then}
use Rattle.subframe_writer.proofs.write_head_and_plain.Goals as goal

pub returns : goal.returns
returns c = append_then (appended_once (bits-subframe_header_bits _) c.write_head.ensures) _ c.write_plain.ensures
