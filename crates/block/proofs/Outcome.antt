-- Any two outcomes that meet a public function's contract are equal. Assumes nothing.
use mathlib.Core.Path.{refl, ap}
use mathlib.Core.List.{List}
use lib.IntN.{ℤ}
use Rattle.reading.proofs.Outcome.{OneOutcome, one_value}
use Rattle.block.specs.contracts.channel as channel
use Rattle.block.proofs.channel.Reads as channel_reads
use Rattle.block.specs.contracts.sample as sample
use Rattle.block.proofs.sample.Reads as sample_reads
use Rattle.block.specs.contracts.pair as pair
use Rattle.block.proofs.pair.Reads as pair_reads
use Rattle.block.specs.contracts.fill as fill
use Rattle.block.proofs.fill.Reads as fill_reads

pub channel-one : OneOutcome channel.ended channel_reads.Learnt
channel-one κs args r r' left left' p q = (one_value p q, refl)

pub sample-one : OneOutcome sample.ended sample_reads.Learnt
sample-one κs args r r' left left' p q = (one_value p q, refl)

pub pair_one : OneOutcome pair.ended pair_reads.Learnt
pair_one κs args r r' left left' p q = (one_value p q, refl)

pub fill_one : OneOutcome fill.ended fill_reads.Learnt
fill_one κs args r r' left left' p q = (refl, ap (λ (l : List ℤ). (l, (tt, tt))) (one_value p q))
