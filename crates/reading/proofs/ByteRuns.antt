-- Runs on bytes: where they start and end, single questions, sequences, checks and lists. Assumes nothing.
use Prim.Native.Nat.{ℕ, suc, ◌+◌, ◌*◌, ◌^◌, ◌≤◌, ◌<◌}
use native.Mathlib.Omega.{arith}
use mathlib.Core.Path.{◌≡◌, refl, ap, ap₂, sym, ◌∙◌, subst}
use mathlib.Core.Bool.{Bool, true, false, ◌&&◌, cond}
use mathlib.Core.List.{List, [], ◌∷◌, ◌++◌, append_assoc, append-nil}
use borrow.Author.Tests.{ltb-true, leb-true, lt-ltb, le-leb, le-ltb, lt-leb}
use lib.Dec.{ltb}
use lib.ListN.{length, take}
use Rattle.reading.specs.declared.Place.{Place}
use Rattle.reading.specs.Readers.{Question, next_bits, Ask, done, stop, ask, seen, ◌>>=◌, bits, require, many, each, Reply, found, cut, reply, RunResult, got, refused, short, follow, run}
use Rattle.reading.specs.Bytes.{bits_of_bytes}
use Rattle.reading.specs.Places.{position, place_of, inside, At, got_at, refused_at, short_at, to_at, run_at, and_then}
use Rattle.reading.proofs.BitPrefixes.{settled, Ends}
use Rattle.reading.proofs.Bits.{length-bits_of_bytes, bits_reply, bits_reply-below, bits_reply-end}

-- ---- places

pub record In (s : List ℕ) (p : Place) : Type 0 where
  pub bit : p.bit < 8
  pub end : position p ≤ 8 * length s

pub and_fst : (a b : Bool) → (a && b) ≡ true → a ≡ true
and_fst true b e = refl
and_fst false b e = e

pub and_snd : (a b : Bool) → (a && b) ≡ true → b ≡ true
and_snd true b e = e
and_snd false true e = refl
and_snd false false e = e

pub inside_in : (s : List ℕ) (p : Place) → inside s p ≡ true → In s p
unfolding inside
inside_in s p e = record { bit = ltb-true _ _ (and_fst _ _ e); end = leb-true _ _ (and_snd (ltb p.bit 8) _ e) }

pub in_inside : (s : List ℕ) (p : Place) → In s p → inside s p ≡ true
unfolding inside
in_inside s p h = rw (lt-ltb _ _ h.bit) (le-leb _ _ h.end)

pub outside_bit : (s : List ℕ) (p : Place) → 8 ≤ p.bit → inside s p ≡ false
unfolding inside
outside_bit s p h = rw (le-ltb _ _ h)

pub outside_end : (s : List ℕ) (p : Place) → p.bit < 8 → 8 * length s < position p → inside s p ≡ false
unfolding inside
outside_end s p b h = rw (lt-ltb _ _ b) (lt-leb _ _ h)

-- a place by its byte and bit is the place of its position
pub place_is : (byte bit i : ℕ) → bit < 8 → 8 * byte + bit ≡ i → ◌≡◌ {A = Place} (record { byte = byte; bit = bit }) (place_of i)
place_is byte bit i h e = ap₂ (λ (x y : ℕ). record { byte = x; bit = y }) (omega arith) (omega arith)

pub place-position : (j : ℕ) → position (place_of j) ≡ j
place-position j = omega arith

pub position-place : (p : Place) → p.bit < 8 → place_of (position p) ≡ p
position-place p h = sym (place_is p.byte p.bit (position p) h refl)

-- the start of an input is a place of it
pub start_in : (s : List ℕ) → In s (place_of 0)
start_in s = record { bit = omega arith; end = omega arith }

-- ---- a run of one step

pub run_at_in : {A : Type 0} (p : Ask A) {s : List ℕ} {at : Place} → In s at → run_at p s at ≡ to_at (run p (bits_of_bytes s) (position at))
unfolding run_at
run_at_in p {s} {at} h = rw (in_inside s at h)

pub run_at-out : {A : Type 0} (p : Ask A) (s : List ℕ) (at : Place) → inside s at ≡ false → run_at p s at ≡ short_at
unfolding run_at
run_at-out p s at e = rw e

pub run_at-done : {A : Type 0} (a : A) {s : List ℕ} {at : Place} → In s at → run_at (done a) s at ≡ got_at a at
unfolding run to_at
run_at-done a {s} {at} h = run_at_in (done a) h ∙ ap (got_at a) (position-place at h.bit)

pub run_at-stop : {A : Type 0} (n : ℕ) {s : List ℕ} {at : Place} → In s at → run_at {A = A} (stop n) s at ≡ refused_at n
unfolding run to_at
run_at-stop n {s} {at} h = run_at_in (stop n) h

-- one question, at a place of the input
unfoldable pub of_reply : Reply → At ℕ
of_reply (found v j) = got_at v (place_of j)
of_reply cut = short_at

one : (x : Reply) → to_at (follow x (λ v j. got v j)) ≡ of_reply x
unfolding to_at follow of_reply
one (found v j) = refl
one cut = refl

pub run_at-ask : (q : Question) {s : List ℕ} {at : Place} → In s at → run_at (ask q done) s at ≡ of_reply (reply q (bits_of_bytes s) (position at))
unfolding run
run_at-ask q {s} {at} h = run_at_in (ask q done) h ∙ one (reply q (bits_of_bytes s) (position at))

-- ---- one reader after another

bind_got : {A B : Type 0} → RunResult A → (A → ℕ → RunResult B) → RunResult B
bind_got (got a j) k = k a j
bind_got (refused n j) k = refused n j
bind_got short k = short

follow_bind : {A B : Type 0} (x : Reply) (f : ℕ → ℕ → RunResult A) (g : ℕ → ℕ → RunResult B) (k : A → ℕ → RunResult B)
    → ((v j : ℕ) → g v j ≡ bind_got (f v j) k) → follow x g ≡ bind_got (follow x f) k
unfolding follow bind_got
follow_bind (found v j) f g k h = h v j
follow_bind cut f g k h = refl

run_bind : {A B : Type 0} (p : Ask A) (k : A → Ask B) (s : List ℕ) (i : ℕ) → run (p >>= k) s i ≡ bind_got (run p s i) (λ a j. run (k a) s j)
unfolding run ◌>>=◌ bind_got
run_bind (done a) k s i = refl
run_bind (stop n) k s i = refl
run_bind (ask q f) k s i = follow_bind (reply q s i) (λ v j. run (f v) s j) (λ v j. run (f v >>= k) s j) _ (λ v j. run_bind (f v) k s j)
run_bind (seen f) k s i = run_bind (f (take i s)) k s i

-- after a value, the run goes on with the next reader
pub run_bind-got : {A B : Type 0} (p : Ask A) (k : A → Ask B) (s : List ℕ) (i : ℕ) {a : A} {j : ℕ} → run p s i ≡ got a j → run (p >>= k) s i ≡ run (k a) s j
unfolding bind_got
run_bind-got p k s i e = run_bind p k s i ∙ ap (λ x. bind_got x (λ a j. run (k a) s j)) e

module _ {A : Type 0} (p : Ask A) (s : List ℕ) (at : Place) where
  got_in : (a : A) (j : ℕ) → In s at → run p (bits_of_bytes s) (position at) ≡ got a j → In s (place_of j)
  got_in a j h e =
      let q = settled p (bits_of_bytes s) (position at) {j = j} (omega (arith, length-bits_of_bytes s, h.end)) (subst (λ x. Ends x j) (sym e) refl) in
      record { bit = omega arith; end = omega (arith, length-bits_of_bytes s, q.1) }

  -- a run on bytes ends at a place inside them
  pub stays_in : {a : A} {at' : Place} → run_at p s at ≡ got_at a at' → In s at'
  unfolding run_at to_at
  stays_in {a} {at'} e = go (inside s at) refl (run p (bits_of_bytes s) (position at)) refl e
    where
      go : (b : Bool) → inside s at ≡ b → (x : RunResult A) → run p (bits_of_bytes s) (position at) ≡ x → cond b (to_at x) short_at ≡ got_at a at' → In s at'
      go true t (got c j) q f = subst (In s) (let z : place_of j ≡ at' = cc in z) (got_in c j (inside_in s at t) q)
      go true t (refused n j) q f = absurd (let z : ◌≡◌ {A = ℕ} 0 1 = cc in omega arith)
      go true t short q f = absurd (let z : ◌≡◌ {A = ℕ} 0 1 = cc in omega arith)
      go false t x q f = absurd (let z : ◌≡◌ {A = ℕ} 0 1 = cc in omega arith)

  pub run_at_bind : {B : Type 0} (k : A → Ask B) → run_at (p >>= k) s at ≡ and_then (run_at p s at) (λ a at'. run_at (k a) s at')
  unfolding run_at to_at and_then bind_got
  run_at_bind {B} k = go (inside s at) refl
    where
      ran : In s at → (x : RunResult A) → run p (bits_of_bytes s) (position at) ≡ x → to_at (bind_got x (λ a j. run (k a) (bits_of_bytes s) j)) ≡ and_then (to_at x) (λ a at'. run_at (k a) s at')
      ran h (got a j) e = sym (run_at_in (k a) (got_in a j h e) ∙ ap (λ i. to_at (run (k a) (bits_of_bytes s) i)) (place-position j))
      ran h (refused n j) e = refl
      ran h short e = refl

      go : (b : Bool) → inside s at ≡ b → cond b (to_at (run (p >>= k) (bits_of_bytes s) (position at))) short_at ≡ and_then (cond b (to_at (run p (bits_of_bytes s) (position at))) short_at) (λ a at'. run_at (k a) s at')
      go true e = ap to_at (run_bind p k (bits_of_bytes s) (position at)) ∙ ran (inside_in s at e) (run p (bits_of_bytes s) (position at)) refl
      go false e = refl

-- two readers in sequence, by the answer of the first
module _ {A B : Type 0} (p : Ask A) (s : List ℕ) (at : Place) (k : A → Ask B) where
  pub bind_is : {y : At A} → run_at p s at ≡ y → run_at (p >>= k) s at ≡ and_then y (λ a at'. run_at (k a) s at')
  bind_is e = run_at_bind p s at k ∙ ap (λ y. and_then y (λ a at'. run_at (k a) s at')) e

  pub bind_got_lem : {a : A} {at' : Place} → run_at p s at ≡ got_at a at' → run_at (p >>= k) s at ≡ run_at (k a) s at'
  unfolding and_then
  bind_got_lem e = bind_is e

  pub bind_refused : {n : ℕ} → run_at p s at ≡ refused_at n → run_at (p >>= k) s at ≡ refused_at n
  unfolding and_then
  bind_refused e = bind_is e

  pub bind_short : run_at p s at ≡ short_at → run_at (p >>= k) s at ≡ short_at
  unfolding and_then
  bind_short e = bind_is e

-- a value from two readers in sequence: the first got one, and the second started where the first ended
module _ {A B : Type 0} (p : Ask A) (k : A → Ask B) (s : List ℕ) (at : Place) where
  pub bind_parts : {b : B} {end : Place} → run_at (p >>= k) s at ≡ got_at b end
      → (a : A) × (at' : Place) × (run_at p s at ≡ got_at a at') × (run_at (k a) s at' ≡ got_at b end)
  unfolding and_then
  bind_parts {b} {end} e = go (run_at p s at) refl
    where
      go : (y : At A) → run_at p s at ≡ y → (a : A) × (at' : Place) × (run_at p s at ≡ got_at a at') × (run_at (k a) s at' ≡ got_at b end)
      go (got_at a at') f = (a, at', f, sym (bind_got_lem p s at k f) ∙ e)
      go (refused_at n) f = absurd (let d = bind_refused p s at k f in let z : ◌≡◌ {A = ℕ} 0 1 = cc in omega arith)
      go short_at f = absurd (let d = bind_short p s at k f in let z : ◌≡◌ {A = ℕ} 0 1 = cc in omega arith)

-- a check that holds reads nothing; one that fails refuses
require_is : (b : Bool) (n : ℕ) {s : List ℕ} {at : Place} → In s at → run_at (require b n) s at ≡ cond b (got_at tt at) (refused_at n)
unfolding require
require_is true n h = run_at-done tt h
require_is false n h = run_at-stop n h

module _ {B : Type 0} {b : Bool} (n : ℕ) (k : Unit {0} → Ask B) {s : List ℕ} {at : Place} (h : In s at) where
  pub require_holds : b ≡ true → run_at (require b n >>= k) s at ≡ run_at (k tt) s at
  require_holds e = bind_got_lem (require b n) s at k (require_is b n h ∙ rw e)

  pub require_fails : b ≡ false → run_at (require b n >>= k) s at ≡ refused_at n
  require_fails e = bind_refused (require b n) s at k (require_is b n h ∙ rw e)

pub require-parts : (b : Bool) (n : ℕ) (s : List ℕ) (at : Place) {end : Place} → In s at → run_at (require b n) s at ≡ got_at tt end → (b ≡ true) × (end ≡ at)
require-parts b n s at {end} h e = go b (sym (require_is b n h) ∙ e)
  where
    go : (c : Bool) → cond c (got_at (tt {0}) at) (refused_at n) ≡ got_at (tt {0}) end → (c ≡ true) × (end ≡ at)
    go true f = (refl, cc)
    go false f = absurd (let z : ◌≡◌ {A = ℕ} 0 1 = cc in omega arith)

-- ---- lists of values: the values that were read go in front of those still to be read

unfoldable pub prepended : {A : Type 0} → List A → At (List A) → At (List A)
prepended xs (got_at ys at) = got_at (xs ++ ys) at
prepended xs (refused_at n) = refused_at n
prepended xs short_at = short_at

pub prepended_nil : {A : Type 0} (x : At (List A)) → prepended [] x ≡ x
unfolding prepended
prepended_nil (got_at ys at) = refl
prepended_nil (refused_at n) = refl
prepended_nil short_at = refl

-- one part of a list, then the rest: the step of `many` and of `each`
module _ {A B : Type 0} (p : Ask A) (put : A → List B) (q : Ask (List B)) (s : List ℕ) (xs : List B) (at : Place) where
  on : A → Ask (List B)
  on x = q >>= (λ rest. done (put x ++ rest))

  join : (x : A) (y : At (List B)) → ((ys : List B) (at : Place) → y ≡ got_at ys at → In s at)
      → prepended xs (and_then y (λ ys at. run_at (done (put x ++ ys)) s at)) ≡ prepended (xs ++ put x) y
  unfolding prepended and_then
  join x (got_at ys at) h = ap (prepended xs) (run_at-done (put x ++ ys) (h ys at refl)) ∙ ap (λ l. got_at l at) (sym (append_assoc xs (put x) ys))
  join x (refused_at n) h = refl
  join x short_at h = refl

  step : {x : A} {at' : Place} → run_at p s at ≡ got_at x at' → prepended xs (run_at (p >>= on) s at) ≡ prepended (xs ++ put x) (run_at q s at')
  unfolding on
  step {x} {at'} e =
      ap (prepended xs) (bind_got_lem p s at on e ∙ run_at_bind q s at' (λ rest. done (put x ++ rest)))
      ∙ join x (run_at q s at') (λ ys at'' f. stays_in q s at' f)

  step-short : run_at p s at ≡ short_at → prepended xs (run_at (p >>= on) s at) ≡ short_at
  unfolding prepended
  step-short e = ap (prepended xs) (bind_short p s at on e)

none : {B : Type 0} (s : List ℕ) (xs : List B) {at : Place} → In s at → prepended xs (run_at (done []) s at) ≡ got_at xs at
unfolding prepended
none s xs {at} h = ap (prepended xs) (run_at-done [] h) ∙ ap (λ l. got_at l at) (append-nil xs)

module _ {A : Type 0} (p : Ask A) (s : List ℕ) (xs : List A) (at : Place) where
  pub many-end : In s at → prepended xs (run_at (many 0 p) s at) ≡ got_at xs at
  unfolding many
  many-end h = none s xs h

  pub many-step : (n : ℕ) {x : A} {at' : Place} → run_at p s at ≡ got_at x at' → prepended xs (run_at (many (suc n) p) s at) ≡ prepended (xs ++ (x ∷ [])) (run_at (many n p) s at')
  unfolding many on
  many-step n e = step p (λ a. a ∷ []) (many n p) s xs at e

  pub many-short : (n : ℕ) → run_at p s at ≡ short_at → prepended xs (run_at (many (suc n) p) s at) ≡ short_at
  unfolding many on
  many-short n e = step-short p (λ a. a ∷ []) (many n p) s xs at e

module _ {A B : Type 0} (f : A → Ask (List B)) (s : List ℕ) (xs : List B) (at : Place) where
  pub each-end : In s at → prepended xs (run_at (each f []) s at) ≡ got_at xs at
  unfolding each
  each-end h = none s xs h

  module _ (y : A) (ys : List A) where
    pub each_step : {x : List B} {at' : Place} → run_at (f y) s at ≡ got_at x at' → prepended xs (run_at (each f (y ∷ ys)) s at) ≡ prepended (xs ++ x) (run_at (each f ys) s at')
    unfolding each on
    each_step e = step (f y) (λ l. l) (each f ys) s xs at e

-- ---- what an answer to a question for n bits says

module _ (n : ℕ) (s : List ℕ) (at : Place) {v : ℕ} {p : Place} (e : run_at (bits n) s at ≡ got_at v p) where
  found-bits : (j : ℕ) × (bits_reply s n 0 (position at) ≡ found v j) × (place_of j ≡ p)
  unfolding bits reply of_reply
  found-bits = go (inside s at) refl
    where
      at_answer : (x : Reply) → bits_reply s n 0 (position at) ≡ x → of_reply x ≡ got_at v p → (j : ℕ) × (bits_reply s n 0 (position at) ≡ found v j) × (place_of j ≡ p)
      at_answer (found w j) f d = let g : w ≡ v = cc in (j, f ∙ ap (λ u. found u j) g, cc)
      at_answer cut f d = absurd (let z : ◌≡◌ {A = ℕ} 0 1 = cc in omega arith)

      go : (b : Bool) → inside s at ≡ b → (j : ℕ) × (bits_reply s n 0 (position at) ≡ found v j) × (place_of j ≡ p)
      go true t = at_answer (bits_reply s n 0 (position at)) refl (sym (run_at-ask (next_bits n) (inside_in s at t)) ∙ e)
      go false t = absurd (let d = run_at-out (ask (next_bits n) done) s at t in let z : ◌≡◌ {A = ℕ} 0 1 = cc in omega arith)

  -- it ends n positions on, and the number is below 2 ^ n
  pub bits-end : position p ≡ position at + n
  bits-end = sym (ap position found-bits.2) ∙ place-position found-bits.0 ∙ bits_reply-end s n (position at) found-bits.1

  pub bits_below : v < 2 ^ n
  bits_below = bits_reply-below s n (position at) found-bits.1
