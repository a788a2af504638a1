-- Any two outcomes that meet a public function's contract are equal. Assumes nothing.
use mathlib.Core.Path.{refl}
use Rattle.reading.proofs.Outcome.{OneOutcome, one_value}
use Rattle.probe_records.specs.contracts.answer_bytes as answer_bytes
use Rattle.probe_records.proofs.answer_bytes.Reads as answer_bytes_reads
use Rattle.probe_records.specs.contracts.four_bytes as four_bytes
use Rattle.probe_records.proofs.four_bytes.Reads as four_bytes_reads
use Rattle.probe_records.specs.contracts.sample_bytes as sample_bytes
use Rattle.probe_records.proofs.sample_bytes.Reads as sample_bytes_reads
use Rattle.probe_records.specs.contracts.number_from_bytes as number_from_bytes
use Rattle.probe_records.proofs.number_from_bytes.Reads as number_from_bytes_reads
use Rattle.probe_records.specs.contracts.sample_from_bytes as sample_from_bytes
use Rattle.probe_records.proofs.sample_from_bytes.Reads as sample_from_bytes_reads

pub answer_bytes-one : OneOutcome answer_bytes.ended answer_bytes_reads.Learnt
answer_bytes-one κs args r r' left left' p q = (one_value p q, refl)

pub four_bytes-one : OneOutcome four_bytes.ended four_bytes_reads.Learnt
four_bytes-one κs args r r' left left' p q = (one_value p q, refl)

pub sample_bytes-one : OneOutcome sample_bytes.ended sample_bytes_reads.Learnt
sample_bytes-one κs args r r' left left' p q = (one_value p q, refl)

pub number_from_bytes-one : OneOutcome number_from_bytes.ended number_from_bytes_reads.Learnt
number_from_bytes-one κs args r r' left left' p q = (one_value p q, refl)

pub sample_from_bytes-one : OneOutcome sample_from_bytes.ended sample_from_bytes_reads.Learnt
sample_from_bytes-one κs args r r' left left' p q = (one_value p q, refl)
