-- The choice among all candidates, order by order. Assumes nothing.
use Prim.Native.Nat.{ℕ, suc, ◌+◌, ◌-◌, ◌≤◌, ◌<◌, min}
use native.Mathlib.Numerals.{add-one}
use native.Mathlib.Omega.{arith}
use mathlib.Core.Path.{◌≡◌, ap, ap₂, sym, ◌∙◌}
use mathlib.Core.Bool.{Bool, true, false, cond}
use mathlib.Core.List.{List, [], ◌∷◌, ◌++◌, map, map-append}
use lib.IntN.{ℤ}
use lib.ListN.{length}
use Rattle.rfc9639.specs.declared.Candidate.{Candidate}
use Rattle.rfc9639.specs.declared.Candidate.TheVariants.{Constant, Verbatim, Fixed}
use Rattle.rfc9639.specs.SubframeCoding.{uniform, numbers_from, fixed_candidates, candidates, fewest_of, fewest, cost, chosen}
use Rattle.rfc9639.proofs.FewestBits.{fewest_of_append}
use Rattle.subframe_choice.specs.declared.Choice.{Choice}
use Rattle.subframe_choice.specs.Choices.{choice_of}
use Rattle.subframe_choice.specs.Private.{priced, priced_fixed, weight, best_plain}
use Rattle.subframe_choice.proofs.CandidateBits.{fewest-priced}

-- how many orders there are
abbrev pub limit : List ℤ → ℕ
limit xs = min 5 (length xs)

module _ (w : ℕ) (xs : List ℤ) where
  -- The orders below `order` are judged: choosing among the rest gives the whole answer.
  pub record Judged (best : Choice) (order : ℕ) : Type 0 where
    pub within : order ≤ limit xs
    pub rest : choice_of w xs ≡ fewest_of weight best (map (priced w xs) (fixed_candidates (numbers_from order (limit xs - order))))

  pub begin : {best : Choice} → best ≡ best_plain w xs → Judged best 0
  unfolding choice_of chosen candidates best_plain priced fewest fewest_of
  begin {best} e = record {
    within = omega arith;
    rest =
        go (uniform xs)
        ∙ ap₂ (λ (b : Choice) n. fewest_of weight b (map (priced w xs) (fixed_candidates (numbers_from 0 n)))) (sym e) (let d : limit xs ≡ limit xs - 0 = omega arith in d);
  }
    where
      fixed_all : List Candidate
      fixed_all = fixed_candidates (numbers_from 0 (limit xs))

      go : (b : Bool) → priced w xs (fewest (cost w xs) (cond b (Constant ∷ []) [] ++ Verbatim ∷ fixed_all))
          ≡ fewest_of weight (cond b (fewest_of weight (priced w xs Constant) (priced w xs Verbatim ∷ [])) (priced w xs Verbatim)) (map (priced w xs) fixed_all)
      go true = sym (fewest-priced w xs Constant (Verbatim ∷ fixed_all))
      go false = sym (fewest-priced w xs Verbatim fixed_all)

  module _ {best : Choice} {order : ℕ} (inv : Judged best order) where
    pub step : {c : Choice} → order < limit xs → c ≡ fewest_of weight best (priced_fixed w xs order) → Judged c (order + 1)
    unfolding numbers_from fixed_candidates
    step {c} h e = record {
      within = omega arith;
      rest =
          inv.rest
          ∙ ap (λ n. fewest_of weight best (map (priced w xs) (fixed_candidates (numbers_from order n)))) (let d : limit xs - order ≡ suc (limit xs - (order + 1)) = omega arith in d)
          ∙ ap (fewest_of weight best) (map-append (priced w xs) (map (Fixed order) (numbers_from 0 15)) others)
          ∙ fewest_of_append weight best (priced_fixed w xs order) (map (priced w xs) others)
          ∙ ap₂ (λ (b : Choice) n. fewest_of weight b (map (priced w xs) (fixed_candidates (numbers_from n (limit xs - (order + 1)))))) (sym e) (sym (add-one order));
    }
      where
        others : List Candidate
        others = fixed_candidates (numbers_from (suc order) (limit xs - (order + 1)))

    pub end : limit xs ≤ order → best ≡ choice_of w xs
    unfolding numbers_from fixed_candidates fewest_of
    end h = sym (inv.rest ∙ ap (λ n. fewest_of weight best (map (priced w xs) (fixed_candidates (numbers_from order n)))) (let d : limit xs - order ≡ 0 = omega arith in d))
