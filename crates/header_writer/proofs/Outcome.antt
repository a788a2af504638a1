-- Any two outcomes that meet a public function's contract are equal. Assumes nothing.
use mathlib.Core.Path.{refl}
use Rattle.reading.proofs.Outcome.{OneOutcome, one_value}
use Rattle.bit_writer.proofs.Outcome.{same_writer}
use Rattle.header_writer.specs.contracts.header_length as header_length
use Rattle.header_writer.proofs.header_length.Reads as header_length_reads
use Rattle.header_writer.specs.contracts.write_header as write_header
use Rattle.header_writer.proofs.write_header.Reads as write_header_reads

pub header_length-one : OneOutcome header_length.ended header_length_reads.Learnt
header_length-one κs args r r' left left' p q = (one_value p q, refl)

pub write_header-one : OneOutcome write_header.ended write_header_reads.Learnt
write_header-one κs args r r' left left' p q = (same_writer p.0 q.0 p.1 q.1, refl)
