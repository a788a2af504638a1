-- Any two outcomes that meet a public function's contract are equal. Assumes nothing.
use mathlib.Core.Path.{refl}
use Rattle.reading.proofs.Outcome.{OneOutcome, one_value}
use Rattle.frame_limits.specs.contracts.channels_of_code as channels_of_code
use Rattle.frame_limits.proofs.channels_of_code.Reads as channels_of_code_reads
use Rattle.frame_limits.specs.contracts.is_allowed as is_allowed
use Rattle.frame_limits.proofs.is_allowed.Reads as is_allowed_reads
use Rattle.frame_limits.specs.contracts.longest as longest
use Rattle.frame_limits.proofs.longest.Reads as longest_reads

pub channels_of_code-one : OneOutcome channels_of_code.ended channels_of_code_reads.Learnt
channels_of_code-one κs args r r' left left' p q = (one_value p q, refl)

pub is_allowed-one : OneOutcome is_allowed.ended is_allowed_reads.Learnt
is_allowed-one κs args r r' left left' p q = (one_value p q, refl)

pub longest-one : OneOutcome longest.ended longest_reads.Learnt
longest-one κs args r r' left left' p q = (one_value p q, refl)
