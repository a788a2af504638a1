-- The codes, the number and the size, one after the other. Assumes nothing.
use Rattle.rfc9639.specs.Write.{field_bits}
use Rattle.rfc9639.proofs.FrameBits.{bits-codes, bits-number}
use Rattle.bit_writer.proofs.ConsecutiveWrites.{appended_once, appended_after, append_then}
use Rattle.header_writer.proofs.write_fields.Goals as goal

pub returns : goal.returns
unfolding field_bits
returns c = append_then (appended_after (appended_once (bits-codes _) c.write_codes.ensures) (bits-number _) c.write_number.ensures) _ c.write_size.ensures
