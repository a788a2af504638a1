-- Any two outcomes that meet a public function's contract are equal. Assumes nothing.
use mathlib.Core.Path.{refl}
use Rattle.reading.proofs.Outcome.{OneOutcome, one_value}
use Rattle.subframe_samples.specs.contracts.Source.len as len
use Rattle.subframe_samples.proofs.Source.len.Reads as len_reads
use Rattle.subframe_samples.specs.contracts.Source.sample as sample
use Rattle.subframe_samples.proofs.Source.sample.Reads as sample_reads
use Rattle.subframe_samples.specs.contracts.Source.fixed_residual as fixed_residual
use Rattle.subframe_samples.proofs.Source.fixed_residual.Reads as fixed_residual_reads

-- its value decides; that it is below 2 ^ 16 adds nothing
pub len-one : OneOutcome len.ended len_reads.Learnt
len-one κs args r r' left left' p q = (one_value p.0 q.0, refl)

pub sample-one : OneOutcome sample.ended sample_reads.Learnt
sample-one κs args r r' left left' p q = (one_value p q, refl)

-- its value decides; the bound on its size adds nothing
pub fixed_residual-one : OneOutcome fixed_residual.ended fixed_residual_reads.Learnt
fixed_residual-one κs args r r' left left' p q = (one_value p.0 q.0, refl)
