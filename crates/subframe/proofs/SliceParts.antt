-- Parts of a slice that are lent to a decoder, and what the decoder's answer says of the definition. Assumes nothing.
use Prim.Native.Nat.{ℕ, ◌-◌, ◌≤◌}
use native.Mathlib.Omega.{arith}
use mathlib.Core.Path.{◌≡◌, refl, ap, sym, ◌∙◌}
use mathlib.Core.Bool.{Bool, true, false, cond}
use mathlib.Core.List.{List, ◌++◌, append_assoc, append-nil}
use borrow.Rule.Slice.PartMut.{mid_of, post_of, put_mid, mid_len, Post-is}
use lib.Dec.{eqb}
use lib.IntN.{ℤ}
use lib.ListN.{length, take, drop, length-append}
use lib.Seq.{take_at, drop_at, drop-length, length-take-le, length_front}
use Rattle.std.specs.Prelude.{Result, Ok, Err}
use Rattle.std.specs.Result.{IsErrAnd}
use Rattle.reading.specs.declared.Place.{Place}
use Rattle.reading.specs.Readers.{Ask, done, ◌>>=◌}
use Rattle.reading.specs.Places.{At, got_at, refused_at, short_at, run_at}
use Rattle.reading.proofs.ByteRuns.{stays_in, run_at-done, bind_got_lem, prepended}
use Rattle.error.specs.declared.Refusal.{Refusal}
use Rattle.error.specs.Answers.{read_at}
use Rattle.error.specs.Numbers.{number_of, refused_by}
use Rattle.error.proofs.Refusals.{bind_refusal, exit}
use Rattle.subframe.specs.Answers.{samples_at}

-- ---- a decoder's answer

-- The exit of a `?`: what it returns is known by `IsErrAnd`. A decoder's refusal is returned whatever the slice holds.
pub read_stops : {A : Type 0} {x : At A} (e : Refusal) (r : Result (A × Place) Refusal) → IsErrAnd r (λ y. y ≡ e) → refused_by e ≡ x → read_at r ≡ x
read_stops e r i h = rw (exit r e i) h

pub samples_stop : {x : At (List ℤ)} (e : Refusal) (r : Result Place Refusal) → IsErrAnd r (λ y. y ≡ e) → refused_by e ≡ x → (left : List ℤ) → samples_at r left ≡ x
samples_stop e r i h left = rw (exit r e i) h

-- what stops the first part stops the whole
pub passed_on : {A : Type 0} (p : Ask A) (s : List ℕ) (at : Place) (k : A → Ask (List ℤ)) (e : Refusal) (r : Result Place Refusal) → IsErrAnd r (λ y. y ≡ e)
    → refused_by e ≡ run_at p s at → (left : List ℤ) → samples_at r left ≡ run_at (p >>= k) s at
passed_on p s at k e r i h = samples_stop e r i (sym (bind_refusal p s at k e (sym h)))

-- a reader, then a function of what it got
pub bind_done : {A B : Type 0} (p : Ask A) (g : A → B) (s : List ℕ) (at : Place) {a : A} {at' : Place} → run_at p s at ≡ got_at a at'
    → run_at (p >>= (λ x. done (g x))) s at ≡ got_at (g a) at'
bind_done p g s at {a} e = bind_got_lem p s at (λ x. done (g x)) e ∙ run_at-done (g a) (stays_in p s at e)

-- a decoder, then a function of the samples that it left
pub then_done : (p : Ask (List ℤ)) (g : List ℤ → List ℤ) (s : List ℕ) (at : Place) {l left : List ℤ} {q : Place} → got_at l q ≡ run_at p s at → left ≡ g l
    → got_at left q ≡ run_at (p >>= (λ x. done (g x))) s at
then_done p g s at {q = q} e f = ap (λ t. got_at t q) f ∙ sym (bind_done p g s at (sym e))

-- what was read before, in front of what a decoder left
pub prepended-refusal : {A : Type 0} (xs : List A) (e : Refusal) → prepended xs (refused_by e) ≡ refused_by e
unfolding prepended
prepended-refusal {A} xs e = go (eqb (number_of e) 2)
  where
    go : (b : Bool) → prepended {A = A} xs (cond b short_at (refused_at (number_of e))) ≡ cond b short_at (refused_at (number_of e))
    go true = refl
    go false = refl

pub prepended-samples_at : (xs : List ℤ) (r : Result Place Refusal) (l : List ℤ) → prepended xs (samples_at r l) ≡ samples_at r (xs ++ l)
unfolding prepended
prepended-samples_at xs (Ok p) l = refl
prepended-samples_at xs (Err e) l = prepended-refusal xs e

-- ---- the part from a to e, replaced by v

module _ {A : Type 0} (a e : ℕ) (l : List A) (h : e ≤ length l) where
  -- a reader of as many as the part has
  pub part-size : {B : Type 0} (p : ℕ → B) → p (length (mid_of a (e - a) l)) ≡ p (e - a)
  part-size p = ap p (mid_len a e l h)

  module _ (v : List A) (g : a ≤ e) (kept : length v ≡ length (mid_of a (e - a) l)) where
    -- the slice up to the end of the part
    pub part-taken : take e (put_mid a (e - a) l v) ≡ take a l ++ v
    part-taken =
        ap (take e) (sym (append_assoc (take a l) v (post_of a (e - a) l)))
        ∙ take_at (take a l ++ v) (post_of a (e - a) l) e (omega (arith, length-append (take a l) v, length-take-le a l (omega arith), kept, mid_len a e l h))

-- ---- the first m, and the rest

module _ {A : Type 0} (m : ℕ) (l : List A) (h : m ≤ length l) where
  pub first-size : {B : Type 0} (p : ℕ → B) → p (length (take m l)) ≡ p m
  first-size p = ap p (length-take-le m l h)

  pub rest_put : (w : List A) → put_mid m (length l - m) l w ≡ take m l ++ w
  rest_put w = ap (λ (t : List A). take m l ++ t) (ap (λ (t : List A). w ++ t) (Post-is m (length l) l h ∙ drop-length l) ∙ append-nil w)

-- the first m are lent to a decoder that reads as many as it is lent
module _ (f : ℕ → Ask (List ℤ)) (s : List ℕ) (at : Place) (m : ℕ) (l : List ℤ) (h : m ≤ length l) where
  front-size : {x : At (List ℤ)} → x ≡ run_at (f (length (take m l))) s at → x ≡ run_at (f m) s at
  front-size e = e ∙ first-size m l h (λ n. run_at (f n) s at)

  pub front-stops : (k : List ℤ → Ask (List ℤ)) (e : Refusal) (r : Result Place Refusal) → IsErrAnd r (λ y. y ≡ e) → refused_by e ≡ run_at (f (length (take m l))) s at
      → (left : List ℤ) → samples_at r left ≡ run_at (f m >>= k) s at
  front-stops k e r i h' = passed_on (f m) s at k e r i (front-size h')

  module _ {v : List ℤ} {p : Place} (says : got_at v p ≡ run_at (f (length (take m l))) s at) where
    pub front-got : run_at (f m) s at ≡ got_at v p
    front-got = sym (front-size says)

    pub front_then : (k : List ℤ → Ask (List ℤ)) → run_at (k v) s p ≡ run_at (f m >>= k) s at
    front_then k = sym (bind_got_lem (f m) s at k front-got)

-- the first m replaced by v, then the rest by w
module _ {A : Type 0} (m : ℕ) (l : List A) (h : m ≤ length l) (v : List A) (kept : length v ≡ length (take m l)) where
  first-long : length v ≡ m
  first-long = kept ∙ length-take-le m l h

  pub first_taken : (w : List A) → take m (v ++ w) ≡ v
  first_taken w = take_at v w m first-long

  pub first_dropped : (w : List A) → drop m (v ++ w) ≡ w
  first_dropped w = drop_at v w m first-long

  abbrev front_replaced : List A
  front_replaced = v ++ drop m l

  pub front_replaced-length : length front_replaced ≡ length l
  front_replaced-length = length_front l v m kept

  within : m ≤ length front_replaced
  within = omega (arith, front_replaced-length)

  pub parts-put : (w : List A) → put_mid m (length front_replaced - m) front_replaced w ≡ v ++ w
  parts-put w = rest_put m front_replaced within w ∙ ap (λ (t : List A). t ++ w) (first_taken (drop m l))
