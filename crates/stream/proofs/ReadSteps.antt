-- A function that reads part after part, as the definition does. Each step takes what the rest gives, so the proof of a
-- return has the order of the code. Assumes nothing.
use Prim.Native.Nat.{ℕ, ◌^◌, ◌≤◌, ◌<◌}
use mathlib.Core.Path.{◌≡◌, sym, ◌∙◌}
use mathlib.Core.Bool.{Bool, true, false}
use mathlib.Core.List.{List}
use Rattle.reading.specs.declared.Place.{Place}
use Rattle.reading.specs.Readers.{Ask, done, ◌>>=◌, bits, require}
use Rattle.reading.specs.Places.{At, got_at, refused_at, run_at}
use Rattle.reading.proofs.ByteRuns.{In, stays_in, run_at-done, run_at-stop, bind_got_lem, require_holds, require_fails, bits_below}
use Rattle.error.specs.declared.Refusal.{Refusal}
use Rattle.error.specs.Numbers.{refused_by}
use Rattle.error.proofs.Refusals.{bind_refusal}
pub use Rattle.error.proofs.Refusals.{exit}
use Rattle.input.specs.Answers.{low64}
use Rattle.input.proofs.Callers.{read_exact}

module _ {A B : Type 0} (p : Ask A) (k : A → Ask B) (s : List ℕ) (at : Place) where
  pub refused_first : (e : Refusal) → refused_by e ≡ run_at p s at → refused_by e ≡ run_at (p >>= k) s at
  refused_first e h = sym (bind_refusal p s at k e (sym h))

  pub goes_on : {a : A} {q : Place} {x : At B} → got_at a q ≡ run_at p s at → (In s q → x ≡ run_at (k a) s q) → x ≡ run_at (p >>= k) s at
  goes_on e f = f (stays_in p s at (sym e)) ∙ sym (bind_got_lem p s at k (sym e))

-- the same for a number of some bits
module _ {B : Type 0} (n : ℕ) (k : ℕ → Ask B) (s : List ℕ) (at : Place) (l : n ≤ 64) where
  pub no_number : (e : Refusal) → refused_by e ≡ low64 (run_at (bits n) s at) → refused_by e ≡ run_at (bits n >>= k) s at
  no_number e h = refused_first (bits n) k s at e (read_exact n s at l h)

  pub number : {v : ℕ} {q : Place} {x : At B} → got_at v q ≡ low64 (run_at (bits n) s at) → (In s q → x ≡ run_at (k v) s q) → x ≡ run_at (bits n >>= k) s at
  number h f = goes_on (bits n) k s at (read_exact n s at l h) f

module _ {B : Type 0} (b : Bool) (n : ℕ) (k : Unit {0} → Ask B) (s : List ℕ) (at : Place) (i : In s at) where
  pub passes : {x : At B} → b ≡ true → x ≡ run_at (k tt) s at → x ≡ run_at (require b n >>= k) s at
  passes e f = f ∙ sym (require_holds n k i e)

  pub fails : b ≡ false → refused_at n ≡ run_at (require b n >>= k) s at
  fails e = sym (require_fails n k i e)

module _ (b : Bool) (n : ℕ) (s : List ℕ) (at : Place) (i : In s at) where
  pub passes_last : b ≡ true → got_at tt at ≡ run_at (require b n) s at
  unfolding require
  passes_last e = rw e (sym (run_at-done tt i))

  pub fails_last : b ≡ false → refused_at n ≡ run_at (require b n) s at
  unfolding require
  fails_last e = rw e (sym (run_at-stop n i))

pub ends : {A : Type 0} (a : A) (s : List ℕ) (at : Place) → In s at → got_at a at ≡ run_at (done a) s at
ends a s at i = sym (run_at-done a i)

-- a number of some bits is below the power of two
pub number_below : (n : ℕ) (s : List ℕ) (at : Place) → n ≤ 64 → {v : ℕ} {q : Place} → got_at v q ≡ low64 (run_at (bits n) s at) → v < 2 ^ n
number_below n s at l h = bits_below n s at (sym (read_exact n s at l h))
