-- Any two outcomes that meet the public function's contract are equal. Assumes nothing.
use Prim.Native.Nat.{ℕ}
use mathlib.Core.Path.{◌≡◌, refl, ap, ap₂}
use mathlib.Core.List.{List}
use lib.IntN.{ℤ}
use Rattle.reading.proofs.Outcome.{OneOutcome, one_value}
use Rattle.std.specs.Prelude.{Result}
use Rattle.error.specs.declared.Refusal.{Refusal}
use Rattle.frame.specs.declared.Accepted.{Accepted}
use Rattle.frame.proofs.Outcome.{report-tells}
use Rattle.walk.specs.declared.Step.{Step}
use Rattle.walk.specs.contracts.read_next as read_next
use Rattle.walk.proofs.read_next.Reads as read_next_reads
use Rattle.walk.specs.contracts.stream_settings as stream_settings
use Rattle.walk.proofs.stream_settings.Reads as stream_settings_reads

-- a step is determined by its two parts
parts_tell : (r r' : Step) → r.answer ≡ r'.answer → r.place ≡ r'.place → r ≡ r'
parts_tell r r' a n = ap₂ (λ (x : Result Accepted Refusal) (y : ℕ). record { answer = x; place = y }) a n

pub read_next-one : OneOutcome read_next.ended read_next_reads.Learnt
read_next-one κs args r r' left left' p q = (
  parts_tell r r' (report-tells r.answer r'.answer (one_value p.answer.report q.answer.report)) (one_value p.next q.next),
  ap (λ (l : List ℤ). (tt, (tt, (tt, (l, tt))))) (one_value p.answer.samples q.answer.samples),
)

pub stream_settings-one : OneOutcome stream_settings.ended stream_settings_reads.Learnt
stream_settings-one κs args r r' left left' p q = (one_value p q, refl)
