-- Any two outcomes that meet the contract are equal. Assumes nothing.
use mathlib.Core.Path.{refl}
use Rattle.reading.proofs.Outcome.{OneOutcome, one_value}
use Rattle.error.proofs.Refusals.{read_at-one}
use Rattle.header.specs.contracts.read_header as read_header
use Rattle.header.proofs.read_header.Reads as read_header_reads

pub read_header-one : OneOutcome read_header.ended read_header_reads.Learnt
read_header-one κs args r r' left left' p q = (read_at-one r r' (one_value p q), refl)
