-- Any two outcomes that meet a public function's contract are equal. Assumes nothing.
use mathlib.Core.Path.{refl}
use Rattle.reading.proofs.Outcome.{OneOutcome, one_value}
use Rattle.number.specs.contracts.low32 as low32
use Rattle.number.proofs.low32.Reads as low32_reads
use Rattle.number.specs.contracts.wrapping_add as wrapping_add
use Rattle.number.proofs.wrapping_add.Reads as wrapping_add_reads
use Rattle.number.specs.contracts.wrapping_sub as wrapping_sub
use Rattle.number.proofs.wrapping_sub.Reads as wrapping_sub_reads
use Rattle.number.specs.contracts.shift_up as shift_up
use Rattle.number.proofs.shift_up.Reads as shift_up_reads
use Rattle.number.specs.contracts.shift_down as shift_down
use Rattle.number.proofs.shift_down.Reads as shift_down_reads
use Rattle.number.specs.contracts.lesser as lesser
use Rattle.number.proofs.lesser.Reads as lesser_reads
use Rattle.number.specs.contracts.saturating_sub as saturating_sub
use Rattle.number.proofs.saturating_sub.Reads as saturating_sub_reads
use Rattle.number.specs.contracts.shift_right as shift_right
use Rattle.number.proofs.shift_right.Reads as shift_right_reads

pub low32-one : OneOutcome low32.ended low32_reads.Learnt
low32-one κs args r r' left left' p q = (one_value p q, refl)

pub wrapping_add-one : OneOutcome wrapping_add.ended wrapping_add_reads.Learnt
wrapping_add-one κs args r r' left left' p q = (one_value p q, refl)

pub wrapping_sub-one : OneOutcome wrapping_sub.ended wrapping_sub_reads.Learnt
wrapping_sub-one κs args r r' left left' p q = (one_value p q, refl)

pub shift_up-one : OneOutcome shift_up.ended shift_up_reads.Learnt
shift_up-one κs args r r' left left' p q = (one_value p q, refl)

pub shift_down-one : OneOutcome shift_down.ended shift_down_reads.Learnt
shift_down-one κs args r r' left left' p q = (one_value p q, refl)

pub lesser-one : OneOutcome lesser.ended lesser_reads.Learnt
lesser-one κs args r r' left left' p q = (one_value p q, refl)

pub saturating_sub-one : OneOutcome saturating_sub.ended saturating_sub_reads.Learnt
saturating_sub-one κs args r r' left left' p q = (one_value p q, refl)

pub shift_right-one : OneOutcome shift_right.ended shift_right_reads.Learnt
shift_right-one κs args r r' left left' p q = (one_value p q, refl)
