-- One outcome: any two answers that meet a public function's contract are equal. Assumes nothing.
use mathlib.Core.Path.{refl}
use Rattle.reading.proofs.Outcome.{OneOutcome, one_value}
use Rattle.error.proofs.Refusals.{read_at-one}
use Rattle.input.specs.contracts.read_bits as read_bits
use Rattle.input.proofs.read_bits.Reads as read_bits_reads
use Rattle.input.specs.contracts.read_unary as read_unary
use Rattle.input.proofs.read_unary.Reads as read_unary_reads
use Rattle.input.specs.contracts.word_from as word_from
use Rattle.input.proofs.word_from.Reads as word_from_reads

pub read_bits-one : OneOutcome read_bits.ended read_bits_reads.Learnt
read_bits-one κs args r r' left left' p q = (read_at-one r r' (one_value p q), refl)

pub read_unary-one : OneOutcome read_unary.ended read_unary_reads.Learnt
read_unary-one κs args r r' left left' p q = (read_at-one r r' (one_value p q), refl)

pub word_from-one : OneOutcome word_from.ended word_from_reads.Learnt
word_from-one κs args r r' left left' p q = (one_value p q, refl)
