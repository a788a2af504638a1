-- Refusals in the definition's words: passed on, no two the same, and none a value. Assumes nothing.
use Prim.Native.Nat.{ℕ}
use native.Mathlib.Omega.{arith}
use mathlib.Core.Path.{◌≡◌, refl, ap, sym, ◌∙◌}
use mathlib.Core.Bool.{Bool, true, false, cond}
use mathlib.Core.List.{List}
use borrow.Author.Tests.{eqb-true}
use lib.Dec.{eqb}
use Rattle.reading.specs.declared.Place.{Place}
use Rattle.reading.specs.Readers.{Ask, ◌>>=◌}
use Rattle.reading.specs.Places.{At, got_at, refused_at, short_at, run_at}
use Rattle.std.specs.Prelude.{Result, Ok, Err}
use Rattle.std.specs.Result.{IsErrAnd}
use Rattle.std.proofs.lemmas.Result.{err_from_is_err_and}
use Rattle.reading.proofs.ByteRuns.{bind_refused, bind_short}
use Rattle.error.specs.declared.Refusal.{Refusal}
use Rattle.error.specs.Numbers.{number_of, refused_by}
use Rattle.error.specs.Answers.{read_at, passed_at}
use Rattle.error.proofs.Outcome.{number-tells}

-- a reader whose first part is refused, or cut short, is too
pub bind_refusal : {A B : Type 0} (p : Ask A) (s : List ℕ) (at : Place) (k : A → Ask B) (e : Refusal) → run_at p s at ≡ refused_by e → run_at (p >>= k) s at ≡ refused_by e
bind_refusal {A} {B} p s at k e = go (eqb (number_of e) 2)
  where
    go : (b : Bool) → run_at p s at ≡ cond b short_at (refused_at (number_of e)) → run_at (p >>= k) s at ≡ cond b short_at (refused_at (number_of e))
    go true h = bind_short p s at k h
    go false h = bind_refused p s at k h

-- the number that a refusal carries
refusal_number : {A : Type 0} → At A → ℕ
refusal_number (got_at a p) = 0
refusal_number (refused_at n) = n
refusal_number short_at = 2

refusal_number_lem : (A : Type 0) (e : Refusal) → refusal_number {A = A} (refused_by e) ≡ number_of e
unfolding refusal_number
refusal_number_lem A e = go (eqb (number_of e) 2) refl
  where
    go : (b : Bool) → eqb (number_of e) 2 ≡ b → refusal_number {A = A} (cond b short_at (refused_at (number_of e))) ≡ number_of e
    go true t = sym (eqb-true (number_of e) 2 t)
    go false t = refl

pub refused-one : {A : Type 0} (e e' : Refusal) → ◌≡◌ {A = At A} (refused_by e) (refused_by e') → e ≡ e'
refused-one {A} e e' h = number-tells e e' (sym (refusal_number_lem A e) ∙ ap refusal_number h ∙ refusal_number_lem A e')

pub got_not_refused : {A : Type 0} (a : A) (p : Place) (e : Refusal) → got_at a p ≡ refused_by e → ⊥
got_not_refused {A} a p e = go (eqb (number_of e) 2)
  where
    go : (b : Bool) → got_at a p ≡ cond b short_at (refused_at (number_of e)) → ⊥
    go true h = let z : ◌≡◌ {A = ℕ} 0 1 = cc in omega arith
    go false h = let z : ◌≡◌ {A = ℕ} 0 1 = cc in omega arith

-- ---- answers

-- answers with the same meaning are equal
pub read_at-one : {A : Type 0} (r r' : Result (A × Place) Refusal) → read_at r ≡ read_at r' → r ≡ r'
read_at-one (Ok (a, p)) (Ok (b, q)) e = let d : a ≡ b = cc in let f : p ≡ q = cc in rw (d, f)
read_at-one (Ok r) (Err e') h = absurd (got_not_refused r.0 r.1 e' h)
read_at-one (Err e) (Ok r') h = absurd (got_not_refused r'.0 r'.1 e (sym h))
read_at-one {A} (Err e) (Err e') h = ap Err (refused-one {A = A} e e' h)

pub passed_at-one : (r r' : Result Place Refusal) → passed_at r ≡ passed_at r' → r ≡ r'
passed_at-one (Ok p) (Ok p') e = cc
passed_at-one (Ok p) (Err e') h = absurd (got_not_refused tt p e' h)
passed_at-one (Err e) (Ok p') h = absurd (got_not_refused tt p' e (sym h))
passed_at-one (Err e) (Err e') h = ap Err (refused-one {A = Unit {0}} e e' h)

-- What the exit of a `?` returns.
pub exit : {T : Type 0} (r : Result T Refusal) (e : Refusal) → IsErrAnd r (λ y. y ≡ e) → r ≡ Err e
exit r e i = let y = err_from_is_err_and r i in y.1 ∙ ap Err y.2

-- The refusal of a reader's first part is the reader's.
module _ {A B : Type 0} (p : Ask A) (k : A → Ask B) (s : List ℕ) (at : Place) where
  pub exits : (r : Result (B × Place) Refusal) (e : Refusal) → IsErrAnd r (λ y. y ≡ e) → refused_by e ≡ run_at p s at → read_at r ≡ run_at (p >>= k) s at
  exits r e i h = rw (exit r e i) (sym (bind_refusal p s at k e (sym h)))
