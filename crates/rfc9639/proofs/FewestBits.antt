-- The writer's choice: it takes the first candidate with the fewest bits. Assumes nothing.
use Prim.Native.Nat.{ℕ, ◌≤◌, ◌<◌, min}
use native.Mathlib.Omega.{arith}
use mathlib.Core.Path.{◌≡◌, refl, ap, sym, ◌∙◌, subst}
use mathlib.Core.Bool.{Bool, true, false, cond}
use mathlib.Core.List.{List, [], ◌∷◌, ◌++◌, map, append_assoc, append-nil}
use borrow.Author.Tests.{ltb-true, ltb-false}
use lib.Dec.{ltb}
use lib.IntN.{ℤ}
use lib.ListN.{length}
use Rattle.reading.proofs.Postconditions.{Every, every_append, every_imp, every_map}
use Rattle.rfc9639.specs.declared.Candidate.{Candidate}
use Rattle.rfc9639.specs.declared.Candidate.TheVariants.{Constant, Verbatim, Fixed}
use Rattle.rfc9639.specs.SubframeCoding.{uniform, numbers_from, fixed_candidates, candidates, fewest_of, fewest, cost, chosen}
use Rattle.rfc9639.proofs.Lists.{every-numbers_from}

-- c is in the list; each element before it counts more, and none after it counts less
pub record Fewest {A : Type 0} (count : A → ℕ) (c : A) (cs : List A) : Type 0 where
  pub before : List A
  pub after : List A
  pub there : cs ≡ before ++ c ∷ after
  pub earlier : Every (λ d. count c < count d) before
  pub later : Every (λ d. count c ≤ count d) after

every_at : {A : Type 0} (P : A → Type 0) (xs : List A) (y : A) (ys : List A) → Every P (xs ++ y ∷ ys) → P y
every_at P [] y ys e = e.0
every_at P (x ∷ xs) y ys e = every_at P xs y ys e.1

module _ {A : Type 0} (count : A → ℕ) where
  -- one more element
  extended : (best c : A) (seen : List A) → Fewest count best seen → Fewest count (cond (ltb (count c) (count best)) c best) (seen ++ (c ∷ []))
  extended best c seen f = go (ltb (count c) (count best)) refl
    where
      go : (b : Bool) → ltb (count c) (count best) ≡ b → Fewest count (cond b c best) (seen ++ (c ∷ []))
      go true e =
          let l = ltb-true (count c) (count best) e in
          record {
            before = seen;
            after = [];
            there = refl;
            earlier = subst (Every (λ d. count c < count d)) (sym f.there)
                (every_append (λ d. count c < count d) f.before (best ∷ f.after)
                (every_imp (λ d h. omega arith) f.before f.earlier)
                (l, every_imp (λ d h. omega arith) f.after f.later));
            later = tt;
          }
      go false e =
          let l = ltb-false (count c) (count best) e in
          record {
            before = f.before;
            after = f.after ++ (c ∷ []);
            there = ap (λ l. l ++ (c ∷ [])) f.there ∙ append_assoc f.before (best ∷ f.after) (c ∷ []);
            earlier = f.earlier;
            later = every_append (λ d. count best ≤ count d) f.after (c ∷ []) f.later (l, tt);
          }

  pub fewest_of_is : (best : A) (seen cs : List A) → Fewest count best seen → Fewest count (fewest_of count best cs) (seen ++ cs)
  unfolding fewest_of
  fewest_of_is best seen [] f = subst (Fewest count best) (sym (append-nil seen)) f
  fewest_of_is best seen (c ∷ cs) f =
      subst (Fewest count (fewest_of count (cond (ltb (count c) (count best)) c best) cs)) (append_assoc seen (c ∷ []) cs)
      (fewest_of_is (cond (ltb (count c) (count best)) c best) (seen ++ (c ∷ [])) cs (extended best c seen f))

  -- to choose from two lists is to choose from the first, then from the second
  pub fewest_of_append : (best : A) (cs ds : List A) → fewest_of count best (cs ++ ds) ≡ fewest_of count (fewest_of count best cs) ds
  unfolding fewest_of
  fewest_of_append best [] ds = refl
  fewest_of_append best (c ∷ cs) ds = fewest_of_append (cond (ltb (count c) (count best)) c best) cs ds

-- no element counts less
pub fewest_at_most : {A : Type 0} (count : A → ℕ) (c d : A) (before after : List A) → Fewest count c (before ++ d ∷ after) → count c ≤ count d
fewest_at_most count c d before after f =
    every_at (λ e. count c ≤ count e) before d after
    (subst (Every (λ e. count c ≤ count e)) (sym f.there)
    (every_append (λ e. count c ≤ count e) f.before (c ∷ f.after) (every_imp (λ e h. omega arith) f.before f.earlier) (omega arith, f.later)))

pub fewest_is : (count : Candidate → ℕ) (c : Candidate) (cs : List Candidate) → Fewest count (fewest count (c ∷ cs)) (c ∷ cs)
unfolding fewest
fewest_is count c cs = fewest_of_is count c (c ∷ []) cs (record { before = []; after = []; there = refl; earlier = tt; later = tt })

-- ---- the candidates of a channel

-- what makes a candidate one of the channel's
pub data CandidateOf (xs : List ℤ) : Candidate → Type 0 where
  constant : uniform xs ≡ true → CandidateOf xs Constant
  verbatim : CandidateOf xs Verbatim
  fixed : (order k : ℕ) → order < min 5 (length xs) → k < 15 → CandidateOf xs (Fixed order k)

module _ (w : ℕ) (xs : List ℤ) where
  pub chosen-fewest : Fewest (cost w xs) (chosen w xs) (candidates xs)
  unfolding chosen candidates
  chosen-fewest = go (uniform xs)
    where
      fixed_all : List Candidate
      fixed_all = fixed_candidates (numbers_from 0 (min 5 (length xs)))

      go : (b : Bool) → Fewest (cost w xs) (fewest (cost w xs) (cond b (Constant ∷ []) [] ++ Verbatim ∷ fixed_all)) (cond b (Constant ∷ []) [] ++ Verbatim ∷ fixed_all)
      go true = fewest_is (cost w xs) Constant (Verbatim ∷ fixed_all)
      go false = fewest_is (cost w xs) Verbatim fixed_all

module _ (xs : List ℤ) where
  fixed_candidates-all : (orders : List ℕ) → Every (λ o. o < min 5 (length xs)) orders → Every (CandidateOf xs) (fixed_candidates orders)
  unfolding fixed_candidates
  fixed_candidates-all [] e = tt
  fixed_candidates-all (o ∷ os) e =
      every_append (CandidateOf xs) (map (Fixed o) (numbers_from 0 15)) (fixed_candidates os)
      (every_map (CandidateOf xs) (Fixed o) (numbers_from 0 15) (every-numbers_from (λ k. CandidateOf xs (Fixed o k)) 0 15 (λ k h. fixed o k e.0 (omega arith))))
      (fixed_candidates-all os e.1)

  candidates-all : Every (CandidateOf xs) (candidates xs)
  unfolding candidates
  candidates-all =
      every_append (CandidateOf xs) (cond (uniform xs) (Constant ∷ []) []) (Verbatim ∷ fixed_candidates (numbers_from 0 (min 5 (length xs)))) (go (uniform xs) refl)
      (verbatim, fixed_candidates-all (numbers_from 0 (min 5 (length xs))) (every-numbers_from (λ o. o < min 5 (length xs)) 0 (min 5 (length xs)) (λ i h. omega arith)))
    where
      go : (b : Bool) → uniform xs ≡ b → Every (CandidateOf xs) (cond b (Constant ∷ []) [])
      go true e = (constant e, tt)
      go false e = tt

  -- what is chosen is a candidate of the channel
  pub chosen_candidate : (w : ℕ) → CandidateOf xs (chosen w xs)
  chosen_candidate w =
      let f = chosen-fewest w xs in
      every_at (CandidateOf xs) f.before (chosen w xs) f.after (subst (Every (CandidateOf xs)) f.there candidates-all)

  -- verbatim is always a candidate, so the chosen one is no longer
  pub chosen_at_most-verbatim : (w : ℕ) → cost w xs (chosen w xs) ≤ cost w xs Verbatim
  unfolding candidates
  chosen_at_most-verbatim w =
      fewest_at_most (cost w xs) (chosen w xs) Verbatim (cond (uniform xs) (Constant ∷ []) []) (fixed_candidates (numbers_from 0 (min 5 (length xs)))) (chosen-fewest w xs)
