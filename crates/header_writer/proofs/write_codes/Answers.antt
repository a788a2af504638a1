-- Seven writes, one after the other. Assumes nothing.
use Rattle.reading.proofs.NumbersAsBits.{binary-bits_of}
use Rattle.rfc9639.specs.Write.{code_bits}
use Rattle.bit_writer.proofs.ConsecutiveWrites.{appended_once, appended_after, append_then}
use Rattle.header_writer.proofs.write_codes.Goals as goal

pub returns : goal.returns
unfolding code_bits
returns c =
    let sync_and_blocking = appended_after (appended_once (binary-bits_of 15 _) c.write_bits.ensures) (binary-bits_of 1 _) c.write_bits-2.ensures in
    let size_and_rate = appended_after (appended_after sync_and_blocking (binary-bits_of 4 _) c.write_bits-3.ensures) (binary-bits_of 4 _) c.write_bits-4.ensures in
    let channels_and_bits = appended_after (appended_after size_and_rate (binary-bits_of 4 _) c.write_bits-5.ensures) (binary-bits_of 3 _) c.write_bits-6.ensures in
    rw (← c.size_code.ensures, ← c.bits_code.ensures) (append_then channels_and_bits _ c.write_bits-7.ensures)
