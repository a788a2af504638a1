-- The first byte, then those that follow it. Assumes nothing.
use Rattle.header_writer.proofs.WrittenNumber.{byte-first}
use Rattle.header_writer.proofs.coded.write_number.Goals as goal

pub returns : goal.returns
returns c = rw c.form_of-first.ensures.0 (byte-first _ _ c.write_bits.ensures c.write_followers.ensures)
