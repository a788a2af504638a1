-- Any two outcomes that meet a public function's contract are equal. Assumes nothing.
use mathlib.Core.Path.{refl}
use Rattle.reading.proofs.Outcome.{OneOutcome, one_value}
use Rattle.crc.specs.contracts.crc8 as crc8
use Rattle.crc.proofs.crc8.Reads as crc8_reads
use Rattle.crc.specs.contracts.crc16 as crc16
use Rattle.crc.proofs.crc16.Reads as crc16_reads

pub crc8-one : OneOutcome crc8.ended crc8_reads.Learnt
crc8-one κs args r r' left left' p q = (one_value p q, refl)

pub crc16-one : OneOutcome crc16.ended crc16_reads.Learnt
crc16-one κs args r r' left left' p q = (one_value p q, refl)
