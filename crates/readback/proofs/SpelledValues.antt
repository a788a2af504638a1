-- Bits that spell a value: the reader gets it from just these bits, whatever follows. Assumes nothing.
use Prim.Native.Nat.{ℕ, zero, suc, ◌+◌, ◌*◌, ◌^◌, ◌<◌}
use native.Mathlib.Nat.{add-zero, zero-add, zero-mul, mod-eq_of_lt}
use native.Mathlib.Omega.{arith}
use mathlib.Core.Path.{◌≡◌, ap, ap₂, sym, ◌∙◌, subst}
use mathlib.Core.Bool.{Bool, true}
use mathlib.Core.List.{List, [], ◌∷◌, ◌++◌, map, append_assoc, append-nil, flat_map}
use lib.ListN.{length, length-append}
use lib.Seq.{drop-append_seam, take-append_seam}
use Rattle.reading.specs.Readers.{Ask, done, ◌>>=◌, bits, zeros, passed, require, many, each, found, bits_from, zeros_from, reply, follow, got, run}
use Rattle.reading.specs.NumbersAsBits.{bits_of, unary, row, spelt}
use Rattle.reading.proofs.ByteRuns.{run_bind-got}
use Rattle.reading.proofs.Postconditions.{Every}
use Rattle.reading.proofs.NumbersAsBits.{length-bits_of, spelt-bits_of}

-- after the bits `before`, the reader p reads just the bits `bs`, and gets a
pub record Spells {A : Type 0} (before : List ℕ) (p : Ask A) (bs : List ℕ) (a : A) : Type 0 where
  pub reads : (rest : List ℕ) → run p (before ++ (bs ++ rest)) (length before) ≡ got a (length before + length bs)

-- ---- equal bits, values or readers

pub spells_as : {A : Type 0} {before : List ℕ} {p : Ask A} {bs cs : List ℕ} {a : A} → bs ≡ cs → Spells before p bs a → Spells before p cs a
spells_as {before} {p} {a} e h = subst (λ ds. Spells before p ds a) e h

pub spells_value : {A : Type 0} {before : List ℕ} {p : Ask A} {bs : List ℕ} {a b : A} → a ≡ b → Spells before p bs a → Spells before p bs b
spells_value {before} {p} {bs} e h = subst (λ c. Spells before p bs c) e h

pub spells_by : {A : Type 0} {before : List ℕ} {p q : Ask A} {bs : List ℕ} {a : A} → q ≡ p → Spells before p bs a → Spells before q bs a
spells_by {before} {bs} {a} e h = subst (λ r. Spells before r bs a) (sym e) h

-- ---- the questions

bits-found : (bs : List ℕ) (acc i : ℕ) (rest : List ℕ) → bits_from (length bs) acc i (bs ++ rest) ≡ found (spelt acc bs) (i + length bs)
unfolding bits_from spelt
bits-found [] acc i rest = ap (found acc) (sym (add-zero i))
bits-found (b ∷ bs) acc i rest = bits-found bs (acc * 2 + b) (suc i) rest ∙ ap (found (spelt (acc * 2 + b) bs)) (omega arith)

zeros-found : (q z i : ℕ) (rest : List ℕ) → zeros_from z i (unary q ++ rest) ≡ found (z + q) (i + length (unary q))
unfolding zeros_from unary
zeros-found zero z i rest = ap₂ found (sym (add-zero z)) (omega arith)
zeros-found (suc q) z i rest = zeros-found q (suc z) (suc i) rest ∙ ap₂ found (omega arith) (omega arith)

module _ {before : List ℕ} where
  pub spells_bits : (n : ℕ) {v : ℕ} → v < 2 ^ n → Spells before (bits n) (bits_of n v) v
  unfolding bits run reply follow
  spells_bits n {v} h = record {
    reads =
        λ rest.
        let bs = bits_of n v in
        ap (λ x. follow x got)
        (ap₂ (λ m s. bits_from m 0 (length before) s) (sym (length-bits_of n v)) (drop-append_seam before (bs ++ rest)) ∙ bits-found bs 0 (length before) rest
        ∙ ap (λ x. found x (length before + length bs)) (spelt-bits_of 0 n v ∙ omega (arith, mod-eq_of_lt h, zero-mul (2 ^ n))));
  }

  pub spells_zeros : (q : ℕ) → Spells before zeros (unary q) q
  unfolding zeros run reply follow
  spells_zeros q = record {
    reads =
        λ rest.
        ap (λ x. follow x got)
        (ap (zeros_from 0 (length before)) (drop-append_seam before (unary q ++ rest)) ∙ zeros-found q 0 (length before) rest
        ∙ ap (λ x. found x (length before + length (unary q))) (zero-add q));
  }

  pub spells_passed : Spells before passed [] before
  unfolding passed run
  spells_passed = record { reads = λ rest. ap₂ got (take-append_seam before rest) (sym (add-zero (length before))) }

  -- ---- one reader after another

  pub spells_done : {A : Type 0} {a : A} → Spells before (done a) [] a
  unfolding run
  spells_done {a} = record { reads = λ rest. ap (got a) (sym (add-zero (length before))) }

  pub spells_bind : {A B : Type 0} {p : Ask A} (k : A → Ask B) {bs cs : List ℕ} {a : A} {b : B} → Spells before p bs a → Spells (before ++ bs) (k a) cs b
      → Spells before (p >>= k) (bs ++ cs) b
  spells_bind {p} k {bs} {cs} {a} {b} h g = record {
    reads =
        λ rest.
        ap (λ s. run (p >>= k) (before ++ s) (length before)) (append_assoc bs cs rest)
        ∙ run_bind-got p k (before ++ (bs ++ (cs ++ rest))) (length before) (h.reads (cs ++ rest))
        ∙ ap₂ (run (k a)) (sym (append_assoc before bs (cs ++ rest))) (sym (length-append before bs)) ∙ g.reads rest
        ∙ ap (got b) (simp length-append (omega arith));
  }

  -- a first step that reads nothing
  pub spells_then : {A B : Type 0} {p : Ask A} (k : A → Ask B) {cs : List ℕ} {a : A} {b : B} → Spells before p [] a → Spells before (k a) cs b
      → Spells before (p >>= k) cs b
  spells_then {p} k {cs} {a} {b} h g = spells_bind k h (subst (λ s. Spells s (k a) cs b) (sym (append-nil before)) g)

  -- a last step that reads nothing
  pub spells_last : {A B : Type 0} {p : Ask A} (k : A → Ask B) {bs : List ℕ} {a : A} {b : B} → Spells before p bs a → Spells (before ++ bs) (k a) [] b
      → Spells before (p >>= k) bs b
  spells_last k {bs} h g = spells_as (append-nil bs) (spells_bind k h g)

  pub spells_require : {b : Bool} (n : ℕ) → b ≡ true → Spells before (require b n) [] tt
  unfolding require
  spells_require n e = rw e spells_done

  -- a check that holds
  pub spells_checked : {A : Type 0} {b : Bool} (n : ℕ) (k : Unit {0} → Ask A) {cs : List ℕ} {a : A} → b ≡ true → Spells before (k tt) cs a
      → Spells before (require b n >>= k) cs a
  spells_checked n k e g = spells_then k (spells_require n e) g

-- ---- lists of values, where P holds of each

module _ {A : Type 0} (P : A → Type 0) (f : A → List ℕ) where
  pub spells_many : (p : Ask A) → ((x : A) → P x → (before : List ℕ) → Spells before p (f x) x) → (xs : List A) → Every P xs
      → {before : List ℕ} → Spells before (many (length xs) p) (row f xs) xs
  unfolding many row
  spells_many p g [] h = spells_done
  spells_many p g (x ∷ xs) h = spells_bind _ (g x h.0 _) (spells_last _ (spells_many p g xs h.1) spells_done)

  pub spells_each : {B C : Type 0} (p : C → Ask (List B)) (w : A → C) (v : A → List B) → ((x : A) → P x → (before : List ℕ) → Spells before (p (w x)) (f x) (v x))
      → (xs : List A) → Every P xs → {before : List ℕ} → Spells before (each p (map w xs)) (row f xs) (flat_map v xs)
  unfolding each row flat_map
  spells_each p w v g [] h = spells_done
  spells_each p w v g (x ∷ xs) h = spells_bind _ (g x h.0 _) (spells_last _ (spells_each p w v g xs h.1) spells_done)
