-- Sums of quotients: residuals added one by one. Assumes nothing.
use Prim.Native.Nat.{ℕ, zero, suc, ◌+◌, ◌*◌, ◌/◌, ◌^◌, ◌≤◌, ◌<◌}
use native.Mathlib.Nat.{add_assoc}
use native.Mathlib.Numerals.{add-one}
use native.Mathlib.Omega.{arith}
use mathlib.Core.Path.{◌≡◌, refl, ap, ap₂, sym, ◌∙◌}
use mathlib.Core.List.{List, [], ◌∷◌, ◌++◌, map, append-nil}
use lib.IntN.{ℤ, pos, nat_abs}
use lib.ListN.{length, get_or, take, drop, set, replicate, length-set, drop_of_length-le}
use lib.Pow.{shr_le}
use lib.Seq.{take-suc, take-suc-set, drop-cons, drop-set-lt, get_or-set_other, append_snoc, take_all}
use Rattle.rfc9639.specs.SubframeCoding.{fold, numbers_from}
use Rattle.subframe_samples.proofs.ResidualsByIndex.{fold_of_small}
use Rattle.subframe_choice.specs.Private.{sum_by, sums_of, add_quotients, Under}

-- ---- one residual is added, sum by sum

-- the first k sums include it
pub record QuotientsAdded (f : ℕ) (qs₀ qs : List ℕ) (k : ℕ) : Type 0 where
  pub within : k ≤ length qs
  pub long : length qs ≡ length qs₀
  pub small : (i : ℕ) → k ≤ i → get_or qs i 0 < 2 ^ 60
  pub same : add_quotients f 0 qs₀ ≡ take k qs ++ add_quotients f k (drop k qs)

pub begin : (f : ℕ) (qs : List ℕ) → Under (2 ^ 60) qs → QuotientsAdded f qs qs 0
begin f qs e = record { within = omega arith; long = refl; small = λ i h. e i; same = refl }

module _ {f : ℕ} {qs₀ qs : List ℕ} {k : ℕ} (inv : QuotientsAdded f qs₀ qs k) where
  pub fits : f < 2 ^ 60 → get_or qs k 0 + f / 2 ^ k < 2 ^ 64
  fits l = omega (arith, inv.small k (omega arith), shr_le f k)

  pub step : k < length qs → QuotientsAdded f qs₀ (set qs k (get_or qs k 0 + f / 2 ^ k)) (k + 1)
  unfolding add_quotients
  step h = record {
    within = simp length-set (omega arith);
    long = simp length-set inv.long;
    small = λ i l. rw (get_or-set_other qs k i q 0 (λ e. omega arith)) (inv.small i (omega arith));
    same =
        inv.same ∙ ap (λ (r : List ℕ). take k qs ++ add_quotients f k r) (drop-cons qs k 0 h)
        ∙ sym (append_snoc (take k qs) q (add_quotients f (suc k) (drop (suc k) qs)))
        ∙ ap₂ (λ (t r : List ℕ). t ++ add_quotients f (suc k) r) (sym (take-suc-set qs k q h)) (sym (drop-set-lt (suc k) qs k q (omega arith)))
        ∙ ap (λ n. take n (set qs k q) ++ add_quotients f n (drop n (set qs k q))) (sym (add-one k));
  }
    where
      q : ℕ
      q = get_or qs k 0 + f / 2 ^ k

  pub end : length qs ≤ k → qs ≡ add_quotients f 0 qs₀
  unfolding add_quotients
  end h =
      sym (inv.same ∙ ap₂ (λ (t r : List ℕ). t ++ add_quotients f k r) (take_all k qs h) (drop_of_length-le qs h) ∙ append-nil qs)

-- ---- residual by residual

sum_snoc : (k : ℕ) (rs : List ℤ) (r : ℤ) → sum_by k (rs ++ (r ∷ [])) ≡ sum_by k rs + fold r / 2 ^ k
unfolding sum_by
sum_snoc k [] r = omega arith
sum_snoc k (x ∷ rs) r = ap (λ n. fold x / 2 ^ k + n) (sum_snoc k rs r) ∙ sym (add_assoc (fold x / 2 ^ k) (sum_by k rs) (fold r / 2 ^ k))

add_quotients-sums : (rs : List ℤ) (r : ℤ) (k n : ℕ)
    → add_quotients (fold r) k (map (λ i. sum_by i rs) (numbers_from k n)) ≡ map (λ i. sum_by i (rs ++ (r ∷ []))) (numbers_from k n)
unfolding add_quotients numbers_from
add_quotients-sums rs r k zero = refl
add_quotients-sums rs r k (suc n) = ap₂ (λ q (qs : List ℕ). q ∷ qs) (sym (sum_snoc k rs r)) (add_quotients-sums rs r (suc k) n)

add_quotients-under : (b f k : ℕ) (qs : List ℕ) → 0 < b → Under b qs → Under (b + f) (add_quotients f k qs)
unfolding add_quotients
add_quotients-under b f k [] l h i = omega arith
add_quotients-under b f k (q ∷ qs) l h zero = omega (arith, h 0, shr_le f k)
add_quotients-under b f k (q ∷ qs) l h (suc i) = add_quotients-under b f (suc k) qs l (λ j. h (suc j)) i

pub length-sums : (rs : List ℤ) → length (sums_of rs) ≡ 15
unfolding sums_of numbers_from
length-sums rs = refl

-- j residuals are added
pub record Tallied (rs : List ℤ) (qs : List ℕ) (j : ℕ) : Type 0 where
  pub within : j ≤ length rs
  pub small : Under (1 + j * 2 ^ 39) qs
  pub same : qs ≡ sums_of (take j rs)

zeros-under : (n : ℕ) → Under 1 (replicate n 0)
zeros-under zero k = omega arith
zeros-under (suc n) zero = omega arith
zeros-under (suc n) (suc k) = zeros-under n k

pub begin-tally : (rs : List ℤ) → Tallied rs (replicate 15 0) 0
unfolding sums_of sum_by numbers_from
begin-tally rs = record { within = omega arith; small = zeros-under 15; same = refl }

module _ {rs : List ℤ} {qs : List ℕ} {j : ℕ} (inv : Tallied rs qs j) (few : length rs < 2 ^ 16) where
  pub long : length qs ≡ 15
  long = ap length inv.same ∙ length-sums (take j rs)

  pub under : Under (2 ^ 60) qs
  under k = omega (arith, inv.small k, inv.within)

  module _ {f : ℕ} {r : ℤ} (e : r ≡ get_or rs j (pos 0)) (l : nat_abs r < 2 ^ 38) (d : f ≡ fold r) where
    pub folded-small : f < 2 ^ 60
    folded-small = omega (arith, fold_of_small r l)

    pub step-tally : {ps : List ℕ} → j < length rs → ps ≡ add_quotients f 0 qs → Tallied rs ps (j + 1)
    unfolding sums_of
    step-tally {ps} h g = record {
      within = omega arith;
      small = λ k. rw g (omega (arith, add_quotients-under (1 + j * 2 ^ 39) f 0 qs (omega arith) inv.small k, fold_of_small r l));
      same =
          g ∙ ap₂ (λ x (q : List ℕ). add_quotients x 0 q) d inv.same ∙ add_quotients-sums (take j rs) r 0 15
          ∙ ap sums_of (ap (λ x. take j rs ++ (x ∷ [])) e ∙ sym (take-suc rs j (pos 0) h) ∙ ap (λ n. take n rs) (sym (add-one j)));
    }

  pub end-tally : length rs ≤ j → qs ≡ sums_of rs
  end-tally h = inv.same ∙ ap sums_of (take_all j rs h)
