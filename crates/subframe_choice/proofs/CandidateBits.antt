-- The bits of each candidate, as the functions count them. Assumes nothing.
use Prim.Native.Nat.{ℕ, zero, suc, ◌+◌, ◌*◌, ◌/◌, ◌^◌, ◌≤◌, min}
use native.Mathlib.Omega.{arith}
use mathlib.Core.Path.{◌≡◌, refl, ap, ap₂, sym, ◌∙◌}
use mathlib.Core.Bool.{Bool, true, false, cond}
use mathlib.Core.List.{List, [], ◌∷◌, map}
use lib.Dec.{ltb}
use lib.IntN.{ℤ}
use lib.ListN.{length, length-take}
use Rattle.rfc9639.specs.declared.Candidate.{Candidate}
use Rattle.rfc9639.specs.declared.Candidate.TheVariants.{Constant, Verbatim, Fixed}
use Rattle.rfc9639.specs.SubframeCoding.{fold, fixed_residuals, uniform, numbers_from, fewest_of, cost}
use Rattle.rfc9639.proofs.Costs.{quotients, cost-constant, cost-verbatim, cost-fixed}
use Rattle.subframe_choice.specs.declared.Choice.{Choice}
use Rattle.subframe_choice.specs.Private.{priced, priced_fixed, weight, best_plain, sum_by, sums_of, offers}

-- a candidate with bits that are counted elsewhere
abbrev pub with_bits : Candidate → ℕ → Choice
with_bits c b = record { candidate = c; bits = b }

-- such a sum is `quotients`
sum-quotients : (k : ℕ) (rs : List ℤ) → sum_by k rs ≡ quotients k rs
unfolding sum_by
sum-quotients k [] = refl
sum-quotients k (r ∷ rs) = ap (λ n. fold r / 2 ^ k + n) (sum-quotients k rs)

module _ (w : ℕ) (xs : List ℤ) where
  -- choosing among candidates with their bits is choosing among candidates
  pub fewest-priced : (c : Candidate) (cs : List Candidate) → fewest_of weight (priced w xs c) (map (priced w xs) cs) ≡ priced w xs (fewest_of (cost w xs) c cs)
  unfolding fewest_of priced
  fewest-priced c [] = refl
  fewest-priced c (d ∷ ds) =
      ap (λ (b : Choice). fewest_of weight b (map (priced w xs) ds)) (go (ltb (cost w xs d) (cost w xs c)))
      ∙ fewest-priced (cond (ltb (cost w xs d) (cost w xs c)) d c) ds
    where
      go : (b : Bool) → cond b (priced w xs d) (priced w xs c) ≡ priced w xs (cond b d c)
      go true = refl
      go false = refl

  -- a fixed predictor's offers, by the sums of its quotients
  offers-from : (order k n : ℕ) → order ≤ length xs
      → offers order (18 + order * w) (length (fixed_residuals order xs)) k (map (λ i. sum_by i (fixed_residuals order xs)) (numbers_from k n))
      ≡ map (priced w xs) (map (Fixed order) (numbers_from k n))
  unfolding offers numbers_from priced
  offers-from order k zero h = refl
  offers-from order k (suc n) h =
      ap₂ (λ (c : Choice) (cs : List Choice). c ∷ cs)
      (ap (with_bits (Fixed order k)) (omega (arith, cost-fixed w xs order k h, sum-quotients k (fixed_residuals order xs))))
      (offers-from order (suc k) n h)

  offers-priced : (order : ℕ) → order ≤ length xs
      → offers order (18 + order * w) (length (fixed_residuals order xs)) 0 (sums_of (fixed_residuals order xs)) ≡ priced_fixed w xs order
  unfolding sums_of
  offers-priced order h = offers-from order 0 15 h

  -- a fixed predictor's choice, as the code has it
  pub fixed_choice : {order head count : ℕ} {qs : List ℕ} {r : Choice} (best : Choice) → order ≤ length xs
      → head ≡ 18 + order * w → count ≡ length (fixed_residuals order xs) → qs ≡ sums_of (fixed_residuals order xs)
      → r ≡ fewest_of weight best (offers order head count 0 qs) → r ≡ fewest_of weight best (priced_fixed w xs order)
  fixed_choice {order} {head} {count} {qs} best h eh ec eq e =
      e ∙ ap₂ (λ m n. fewest_of weight best (offers order m n 0 qs)) eh ec
      ∙ ap (λ (l : List ℕ). fewest_of weight best (offers order (18 + order * w) (length (fixed_residuals order xs)) 0 l)) eq
      ∙ ap (fewest_of weight best) (offers-priced order h)

  -- ---- the choice without prediction, as the code has it

  module _ {b : ℕ} (e : b ≡ 8 + length xs * w) where
    verbatim : with_bits Verbatim b ≡ priced w xs Verbatim
    unfolding priced
    verbatim = ap (with_bits Verbatim) (e ∙ sym (cost-verbatim w xs))

    pub plain-verbatim : uniform xs ≡ false → with_bits Verbatim b ≡ best_plain w xs
    unfolding best_plain
    plain-verbatim u = rw u verbatim

    pub plain-constant : {a : ℕ} {r : Choice} → uniform xs ≡ true → a ≡ 8 + min 1 (length xs) * w
        → r ≡ fewest_of weight (with_bits Constant a) (with_bits Verbatim b ∷ []) → r ≡ best_plain w xs
    unfolding best_plain priced
    plain-constant {a} u d g =
        rw u
        (g
        ∙ ap₂ (λ (c v : Choice). fewest_of weight c (v ∷ []))
        (ap (with_bits Constant) (d ∙ ap (λ n. 8 + n * w) (sym (length-take 1 xs)) ∙ sym (cost-constant w xs))) verbatim)
