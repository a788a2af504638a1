-- Any two outcomes that meet a public function's contract are equal. Assumes nothing.
use mathlib.Core.Path.{refl}
use Rattle.reading.proofs.Outcome.{OneOutcome, one_value}
use Rattle.signed.specs.contracts.sign_extend as sign_extend
use Rattle.signed.proofs.sign_extend.Reads as sign_extend_reads
use Rattle.signed.specs.contracts.unfold as unfold_contract
use Rattle.signed.proofs.unfold.Reads as unfold_reads
use Rattle.signed.specs.contracts.fold as fold
use Rattle.signed.proofs.fold.Reads as fold_reads
use Rattle.signed.specs.contracts.low_bits as low_bits
use Rattle.signed.proofs.low_bits.Reads as low_bits_reads

pub sign_extend-one : OneOutcome sign_extend.ended sign_extend_reads.Learnt
sign_extend-one κs args r r' left left' p q = (one_value p q, refl)

pub unfold-one : OneOutcome unfold_contract.ended unfold_reads.Learnt
unfold-one κs args r r' left left' p q = (one_value p q, refl)

pub fold-one : OneOutcome fold.ended fold_reads.Learnt
fold-one κs args r r' left left' p q = (one_value p q, refl)

pub low_bits-one : OneOutcome low_bits.ended low_bits_reads.Learnt
low_bits-one κs args r r' left left' p q = (one_value p q, refl)
