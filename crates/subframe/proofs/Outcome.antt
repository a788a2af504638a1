-- One outcome: any two answers of `decode`, with the samples left, that meet its contract are equal. Assumes nothing.
use Prim.Native.Nat.{ℕ}
use mathlib.Core.Path.{◌≡◌, ap}
use mathlib.Core.List.{List}
use lib.IntN.{ℤ}
use Rattle.std.specs.Prelude.{Result, Ok, Err}
use Rattle.reading.specs.declared.Place.{Place}
use Rattle.reading.specs.Places.{At}
use Rattle.reading.proofs.Outcome.{OneOutcome, one_value}
use Rattle.error.specs.declared.Refusal.{Refusal}
use Rattle.error.proofs.Refusals.{refused-one, got_not_refused}
use Rattle.subframe.specs.Answers.{Left}
use Rattle.subframe.specs.contracts.decode as decode
use Rattle.subframe.proofs.decode.Reads as decode_reads

left_one : (x : At (List ℤ)) (n : ℕ) (r r' : Result Place Refusal) (l l' : List ℤ) → Left x n r l → Left x n r' l' → (r ≡ r') × (l ≡ l')
left_one x n (Ok p) (Ok p') l l' a b = let e = one_value a.answer b.answer in let f : p ≡ p' = cc in (ap Ok f, cc)
left_one x n (Ok p) (Err e') l l' a b = absurd (got_not_refused l p e' (one_value a.answer b.answer))
left_one x n (Err e) (Ok p') l l' a b = absurd (got_not_refused l' p' e (one_value b.answer a.answer))
left_one x n (Err e) (Err e') l l' a b = (ap Err (refused-one e e' (one_value a.answer b.answer)), one_value a.stopped b.stopped)

pub decode-one : OneOutcome decode.ended decode_reads.Learnt
decode-one κs args r r' left left' p q =
    let (answers, samples) = left_one _ _ r r' _ _ p q in (answers, ap (λ l. (tt, (tt, (tt, (l, tt))))) samples)
