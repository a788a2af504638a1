-- A fixed predictor's parameters, offered one by one. Assumes nothing.
use Prim.Native.Nat.{ℕ, suc, ◌+◌, ◌*◌, ◌≤◌, ◌<◌}
use native.Mathlib.Numerals.{add-one}
use native.Mathlib.Omega.{arith}
use mathlib.Core.Path.{◌≡◌, refl, ap, sym, ◌∙◌}
use mathlib.Core.List.{List, [], ◌∷◌}
use lib.ListN.{length, get_or, drop, drop_of_length-le}
use lib.Seq.{drop-cons}
use Rattle.rfc9639.specs.declared.Candidate.TheVariants.{Fixed}
use Rattle.rfc9639.specs.SubframeCoding.{fewest_of}
use Rattle.subframe_choice.specs.declared.Choice.{Choice}
use Rattle.subframe_choice.specs.Private.{weight, offers}

-- k parameters are judged: choosing among the rest gives the whole answer.
pub record Offered (order head count : ℕ) (qs : List ℕ) (best₀ best : Choice) (k : ℕ) : Type 0 where
  pub within : k ≤ length qs
  pub same : fewest_of weight best₀ (offers order head count 0 qs) ≡ fewest_of weight best (offers order head count k (drop k qs))

pub begin : (order head count : ℕ) (qs : List ℕ) (best : Choice) → Offered order head count qs best best 0
begin order head count qs best = record { within = omega arith; same = refl }

module _ {order head count : ℕ} {qs : List ℕ} {best₀ best : Choice} {k : ℕ} (inv : Offered order head count qs best₀ best k) where
  pub step : {c : Choice} → k < length qs → c ≡ fewest_of weight best (record { candidate = Fixed order k; bits = head + get_or qs k 0 + count * (k + 1) } ∷ [])
      → Offered order head count qs best₀ c (k + 1)
  unfolding offers fewest_of
  step {c} h e = record {
    within = omega arith;
    same =
        inv.same ∙ ap (λ (r : List ℕ). fewest_of weight best (offers order head count k r)) (drop-cons qs k 0 h)
        ∙ ap (λ (b : Choice). fewest_of weight b (offers order head count (suc k) (drop (suc k) qs))) (sym e)
        ∙ ap (λ n. fewest_of weight c (offers order head count n (drop n qs))) (sym (add-one k));
  }

  pub end : length qs ≤ k → best ≡ fewest_of weight best₀ (offers order head count 0 qs)
  unfolding offers fewest_of
  end h =
      sym (inv.same ∙ ap (λ (r : List ℕ). fewest_of weight best (offers order head count k r)) (drop_of_length-le qs h))
