-- A part that reads nothing, known by what a function computed; the steps of a reader, passed on; and the exit of a `?`.
-- Assumes nothing.
use Prim.Native.Nat.{ℕ}
use native.Mathlib.Omega.{arith}
use mathlib.Core.Path.{◌≡◌, ap, sym, ◌∙◌, subst}
use mathlib.Core.List.{List}
use mathlib.Core.Bool.{true}
use borrow.Author.Tests.{leb-true, ne_eqb}
use lib.Dec.{leb}
use Rattle.reading.specs.declared.Place.{Place}
use Rattle.reading.specs.Readers.{Ask, done, stop, ◌>>=◌, bits}
use Rattle.reading.specs.Places.{At, refused_at, run_at}
use Rattle.reading.proofs.ByteRuns.{In, run_at-stop, bind_refused}
use Rattle.reading.proofs.Postconditions.{Holds, Meets, holds_at}
use Rattle.std.specs.Prelude.{Result}
use Rattle.std.specs.Result.{IsErrAnd}
use Rattle.error.specs.declared.Refusal.{Refusal}
use Rattle.error.specs.Numbers.{number_of, refused_by}
use Rattle.error.specs.Answers.{read_at, passed_at}
use Rattle.error.proofs.Refusals.{exit}
use Rattle.input.specs.Answers.{low64}
use Rattle.input.proofs.Callers.{read_exact}
use Rattle.demands.proofs.Headers.{Early}
pub use Rattle.reading.proofs.ReaderSteps.{then_done, check_fails, check_holds, check_done}

-- what a call of `read_bits` says of the bits that it read
pub bits_read : (n : ℕ) (s : List ℕ) (at : Place) {x : At ℕ} → leb n 64 ≡ true → x ≡ low64 (run_at (bits n) s at) → run_at (bits n) s at ≡ x
bits_read n s at h e = sym (read_exact n s at (leb-true n 64 h) e)

-- what a `?` returns, where the reader is refused
pub exits_by : {A : Type 0} {x : At A} (r : Result (A × Place) Refusal) (e : Refusal) → IsErrAnd r (λ y. y ≡ e) → x ≡ refused_by e → read_at r ≡ x
exits_by r e i h = rw (exit r e i) (sym h)

pub passed_exits : {x : At (Unit {0})} (r : Result Place Refusal) (e : Refusal) → IsErrAnd r (λ y. y ≡ e) → x ≡ refused_by e → passed_at r ≡ x
passed_exits r e i h = rw (exit r e i) (sym h)

module _ {A B : Type 0} (t : Ask A) (k : A → Ask B) (s : List ℕ) (at : Place) where
  pub known-done : {a : A} → done a ≡ t → run_at (t >>= k) s at ≡ run_at (k a) s at
  unfolding ◌>>=◌
  known-done {a} e = ap (λ x. run_at (x >>= k) s at) (sym e)

  pub known-stops : {P : A → Type 0} (x : Refusal) → Holds Early P t → In s at → stop (number_of x) ≡ t → run_at (t >>= k) s at ≡ refused_by x
  known-stops {P} x h i e =
      let f : run_at t s at ≡ refused_at (number_of x) = ap (λ y. run_at y s at) (sym e) ∙ run_at-stop (number_of x) i in
      let l : Early (number_of x) = subst (Meets Early P) f (holds_at Early P s at h) in
      bind_refused t s at k f ∙ sym (rw (ne_eqb (number_of x) 2 (omega arith)))
