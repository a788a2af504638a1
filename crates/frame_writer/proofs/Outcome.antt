-- Any two outcomes that meet the writer's contract are equal: number and length determine the answer. Assumes nothing.
use Prim.Native.Nat.{ℕ}
use native.Mathlib.Omega.{arith}
use mathlib.Core.Path.{◌≡◌, ap}
use mathlib.Core.List.{List}
use Rattle.std.specs.Prelude.{Result, Ok, Err}
use Rattle.reading.proofs.Outcome.{OneOutcome, one_value}
use Rattle.error.specs.declared.Refusal.{Refusal}
use Rattle.error.proofs.Outcome.{number-tells, some_number}
use Rattle.rfc9639.specs.Write.{unwritten}
use Rattle.frame_writer.specs.Outcomes.{outcome}
use Rattle.frame_writer.specs.contracts.write_frame as write_frame
use Rattle.frame_writer.proofs.write_frame.Reads as write_frame_reads

outcome_determines : (r r' : Result ℕ Refusal) (s s' : List ℕ) → outcome r s ≡ outcome r' s' → (r ≡ r') × (s ≡ s')
unfolding unwritten
outcome_determines (Ok n) (Ok m) s s' e = (ap (λ x. Ok x.length) e, ap (λ x. x.output) e)
outcome_determines (Ok n) (Err x) s s' e = absurd (omega (arith, some_number x, ap (λ y. y.number) e))
outcome_determines (Err x) (Ok n) s s' e = absurd (omega (arith, some_number x, ap (λ y. y.number) e))
outcome_determines (Err x) (Err y) s s' e =
    (ap Err (number-tells x y (ap (λ z. z.number) e)), ap (λ z. z.output) e)

pub write_frame-one : OneOutcome write_frame.ended write_frame_reads.Learnt
write_frame-one κs args r r' left left' p q =
    let (answers, outputs) = outcome_determines r r' _ _ (one_value p q) in (answers, ap (λ l. (tt, (tt, (tt, (tt, (tt, (tt, (l, tt)))))))) outputs)
