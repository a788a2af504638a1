-- The steps of a reader: what it gets, or why it stops, by what its first part did. Assumes nothing.
use Prim.Native.Nat.{ℕ}
use mathlib.Core.Path.{◌≡◌, ap, sym, ◌∙◌}
use mathlib.Core.Bool.{Bool, true, false}
use mathlib.Core.List.{List}
use Rattle.reading.specs.declared.Place.{Place}
use Rattle.reading.specs.Readers.{Ask, done, ◌>>=◌, ◌>>◌, require}
use Rattle.reading.specs.Places.{At, got_at, refused_at, run_at}
use Rattle.reading.proofs.ByteRuns.{stays_in, run_at-done, bind_got_lem, require_holds, require_fails}

-- what a part of the definition gives, by the answer of a call that a match has named
pub answer_is : {R A : Type 0} (means : R → At A) {r r' : R} {x : At A} → means r ≡ x → r ≡ r' → x ≡ means r'
answer_is means e f = sym e ∙ ap means f

module _ {A B : Type 0} (p : Ask A) (s : List ℕ) (at : Place) where
  -- what was got, then a function of it
  pub then_done : (f : A → B) {a : A} {q : Place} → run_at p s at ≡ got_at a q → run_at (p >>= (λ x. done (f x))) s at ≡ got_at (f a) q
  then_done f {a} e = bind_got_lem p s at (λ x. done (f x)) e ∙ run_at-done (f a) (stays_in p s at e)

  -- what was got, then a check of it
  module _ (b : A → Bool) (n : ℕ) {a : A} {q : Place} (e : run_at p s at ≡ got_at a q) where
    pub check_fails : (k : A → Ask B) → b a ≡ false → run_at (p >>= (λ x. require (b x) n >> k x)) s at ≡ refused_at n
    check_fails k f = bind_got_lem p s at (λ x. require (b x) n >> k x) e ∙ require_fails n (λ _. k a) (stays_in p s at e) f

    pub check_holds : (k : A → Ask B) → b a ≡ true → run_at (p >>= (λ x. require (b x) n >> k x)) s at ≡ run_at (k a) s q
    check_holds k f = bind_got_lem p s at (λ x. require (b x) n >> k x) e ∙ require_holds n (λ _. k a) (stays_in p s at e) f

    pub check_done : (f : A → B) → b a ≡ true → run_at (p >>= (λ x. require (b x) n >> done (f x))) s at ≡ got_at (f a) q
    check_done f g = check_holds (λ x. done (f x)) g ∙ run_at-done (f a) (stays_in p s at e)
