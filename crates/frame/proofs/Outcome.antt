-- Any two outcomes that meet the contract are equal: the report fixes the answer. Assumes nothing.
use native.Mathlib.Omega.{arith}
use mathlib.Core.Path.{◌≡◌, ap}
use Rattle.reading.proofs.Outcome.{OneOutcome, one_value}
use Rattle.std.specs.Prelude.{Result, Ok, Err}
use Rattle.error.specs.declared.Refusal.{Refusal}
use Rattle.error.proofs.Outcome.{number-tells, some_number}
use Rattle.rfc9639.specs.Read.{Report, refusal}
use Rattle.frame.specs.declared.Accepted.{Accepted}
use Rattle.frame.specs.Reads.{report_of}
use Rattle.frame.specs.contracts.read_frame as read_frame
use Rattle.frame.proofs.read_frame.Reads as read_frame_reads

-- the frame that a report describes
reported : Report → Accepted
reported r = record { consumed = r.consumed; first = r.first; rate = r.rate; channels = r.channels; bits = r.bits; size = r.size }

pub report-tells : (r r' : Result Accepted Refusal) → report_of r ≡ report_of r' → r ≡ r'
unfolding refusal reported
report-tells (Ok f) (Ok g) e = ap (λ x. Ok (reported x)) e
report-tells (Ok f) (Err x) e = absurd (omega (arith, some_number x, ap (λ y. y.number) e))
report-tells (Err x) (Ok f) e = absurd (omega (arith, some_number x, ap (λ y. y.number) e))
report-tells (Err x) (Err y) e = ap Err (number-tells x y (ap (λ z. z.number) e))

pub read_frame-one : OneOutcome read_frame.ended read_frame_reads.Learnt
read_frame-one κs args r r' left left' p q =
    (report-tells r r' (one_value p.report q.report), ap (λ l. (tt, (tt, (l, tt)))) (one_value p.samples q.samples))
