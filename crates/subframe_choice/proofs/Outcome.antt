-- Any two outcomes that meet a public function's contract are equal. Assumes nothing.
use mathlib.Core.Path.{refl}
use Rattle.reading.proofs.Outcome.{OneOutcome, one_value}
use Rattle.subframe_choice.specs.contracts.choose as choose
use Rattle.subframe_choice.proofs.choose.Reads as choose_reads

pub choose_one : OneOutcome choose.ended choose_reads.Learnt
choose_one κs args r r' left left' p q = (one_value p q, refl)
