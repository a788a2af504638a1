-- Fixed predictions as the code adds them up: each product and sum is exact at 64 bits. Assumes nothing.
use Prim.Native.Nat.{ℕ, zero, suc, ◌+◌, ◌-◌, ◌*◌, ◌^◌, ◌≤◌, ◌<◌}
use native.Mathlib.Nat.{mul-le-mul, sub-zero}
use native.Mathlib.Numerals.{add-one}
use native.Mathlib.Omega.{arith}
use mathlib.Core.Path.{◌≡◌, refl, ap, ap₂, sym, ◌∙◌, subst}
use mathlib.Core.List.{List, [], ◌∷◌, reverse}
use lib.IntN.{ℤ, pos, neg_ℤ, nat_abs, ◌+ℤ◌, ◌-ℤ◌, ◌*ℤ◌}
use lib.ListN.{length, get_or, take, drop, drop_of_length-le}
use lib.Seq.{drop-cons}
use mir.Syntax.{w64}
use mir.Val.{SFits}
use mir.Facts.{to_z-of_z}
use Rattle.number.specs.Private.{Small}
use Rattle.rfc9639.specs.Prediction.{dot, fixed_coefficients}
use Rattle.signed.proofs.SignCases.{bits64}
use Rattle.number.proofs.ProductSums.{sfits_of_abs, abs_add, abs_mul, abs_neg}
use Rattle.subframe_samples.specs.Private.{predicted_at}
use Rattle.subframe_samples.proofs.ResidualsByIndex.{reverse-take-latest}

-- ---- one product more (the code passes a signed value by its bits)

module _ {sum c x : ℤ} (fs : SFits w64 sum) (fc : SFits w64 c) (fx : SFits w64 x) (hs : nat_abs sum ≤ 18 * 2 ^ 32) (hc : nat_abs c ≤ 6)
    (hx : nat_abs x ≤ 2 ^ 32) where
  abs_product : nat_abs (c *ℤ x) ≤ 6 * 2 ^ 32
  abs_product = subst (λ n. n ≤ 6 * 2 ^ 32) (sym (abs_mul c x)) (mul-le-mul {n₂ = 6} {m₂ = 2 ^ 32} hc hx)

  abs_sum : nat_abs (sum +ℤ c *ℤ x) ≤ nat_abs sum + 6 * 2 ^ 32
  abs_sum = omega (arith, abs_add sum (c *ℤ x), abs_product)

  pub coefficient-product-fits : SFits w64 (bits64 c *ℤ bits64 x)
  coefficient-product-fits = rw (to_z-of_z fc, to_z-of_z fx) (sfits_of_abs (c *ℤ x) (omega (arith, abs_product)))

  product : bits64 (bits64 c *ℤ bits64 x) ≡ c *ℤ x
  product = to_z-of_z coefficient-product-fits ∙ ap₂ (λ (a b : ℤ). a *ℤ b) (to_z-of_z fc) (to_z-of_z fx)

  pub product-sum_fits : SFits w64 (bits64 sum +ℤ bits64 (bits64 c *ℤ bits64 x))
  product-sum_fits = rw (to_z-of_z fs, product) (sfits_of_abs (sum +ℤ c *ℤ x) (omega (arith, abs_sum)))

  pub product-sum_is : {y : ℤ} → x ≡ y
      → (bits64 (bits64 sum +ℤ bits64 (bits64 c *ℤ bits64 x)) ≡ sum +ℤ c *ℤ y)
      × (nat_abs (bits64 (bits64 sum +ℤ bits64 (bits64 c *ℤ bits64 x))) ≤ nat_abs sum + 6 * 2 ^ 32)
  product-sum_is d =
      let e = to_z-of_z product-sum_fits ∙ ap₂ (λ (a b : ℤ). a +ℤ b) (to_z-of_z fs) product in
      (e ∙ ap (λ (z : ℤ). sum +ℤ c *ℤ z) d, rw e abs_sum)

-- ---- the prediction of sample i: k products are added up in acc

-- each coefficient is small
pub small_at : (cs : List ℤ) → Small 7 cs → (k : ℕ) → nat_abs (get_or cs k (pos 0)) ≤ 6
small_at [] h k = omega arith
small_at (c ∷ cs) h zero = omega (arith, h.0)
small_at (c ∷ cs) h (suc k) = small_at cs h.1 k

pub record PredictionSoFar (cs xs : List ℤ) (i k : ℕ) (acc : ℤ) : Type 0 where
  pub same : dot (pos 0) cs (reverse (take i xs)) ≡ dot acc (drop k cs) (reverse (take (i - k) xs))
  pub bound : nat_abs acc ≤ k * (6 * 2 ^ 32)

pub begin : (cs xs : List ℤ) (i : ℕ) → PredictionSoFar cs xs i 0 (pos 0)
begin cs xs i = record { same = ap (λ n. dot (pos 0) cs (reverse (take n xs))) (sym (sub-zero i)); bound = omega arith }

module _ {cs xs : List ℤ} {i k : ℕ} {acc : ℤ} (inv : PredictionSoFar cs xs i k acc) where
  pub room : k ≤ 3 → nat_abs acc ≤ 18 * 2 ^ 32
  room h = omega (arith, inv.bound)

  pub step : k < length cs → k < i → i ≤ length xs → {r c : ℤ} {j : ℕ} → c ≡ get_or cs k (pos 0) → j ≡ i - suc k
      → (r ≡ acc +ℤ c *ℤ get_or xs j (pos 0)) × (nat_abs r ≤ nat_abs acc + 6 * 2 ^ 32) → PredictionSoFar cs xs i (k + 1) r
  unfolding dot
  step n h l {r} f g e = record {
    same =
        inv.same ∙ ap₂ (dot acc) (drop-cons cs k (pos 0) n) (reverse-take-latest xs i k h l)
        ∙ ap (λ (a : ℤ). dot a (drop (suc k) cs) (reverse (take (i - suc k) xs))) (sym (e.0 ∙ ap₂ (λ (a : ℤ) (m : ℕ). acc +ℤ a *ℤ get_or xs m (pos 0)) f g))
        ∙ ap (λ m. dot r (drop m cs) (reverse (take (i - m) xs))) (sym (add-one k));
    bound = omega (arith, inv.bound, e.1);
  }

  pub end : length cs ≤ k → k ≤ 4 → (acc ≡ dot (pos 0) cs (reverse (take i xs))) × (nat_abs acc ≤ 24 * 2 ^ 32)
  unfolding dot
  end n h = (sym (inv.same ∙ ap (λ (d : List ℤ). dot acc d (reverse (take (i - k) xs))) (drop_of_length-le cs n)), omega (arith, inv.bound))

-- ---- the coefficients of each order

pub predicted-none : (xs : List ℤ) (i : ℕ) → pos 0 ≡ predicted_at 0 xs i
unfolding predicted_at fixed_coefficients dot
predicted-none xs i = refl

-- the prediction with the coefficients of an order
pub with_coefficients : (xs : List ℤ) (i order : ℕ) {cs : List ℤ} → fixed_coefficients order ≡ cs → dot (pos 0) cs (reverse (take i xs)) ≡ predicted_at order xs i
unfolding predicted_at
with_coefficients xs i order e = ap (λ (l : List ℤ). dot (pos 0) l (reverse (take i xs))) (sym e)

-- the same prediction by another name (the code passes a signed value by its bits)
pub same-coefficients : {r a b : ℤ} → SFits w64 r → (r ≡ a) × (nat_abs r ≤ 24 * 2 ^ 32) → a ≡ b → (bits64 r ≡ b) × (nat_abs (bits64 r) ≤ 24 * 2 ^ 32)
same-coefficients f e d = rw (to_z-of_z f) (e.0 ∙ d, e.1)

-- ---- a sample less its prediction

module _ {x y : ℤ} (fx : SFits w64 x) (fy : SFits w64 y) (hx : nat_abs x ≤ 2 ^ 32) (hy : nat_abs y ≤ 24 * 2 ^ 32) where
  abs_residual : nat_abs (x -ℤ y) < 2 ^ 38
  abs_residual = omega (arith, abs_add x (neg_ℤ y), abs_neg y)

  pub residual-fits : SFits w64 (bits64 x -ℤ bits64 y)
  residual-fits = rw (to_z-of_z fx, to_z-of_z fy) (sfits_of_abs (x -ℤ y) (omega (arith, abs_residual)))

  pub residual_is : {a b : ℤ} → x ≡ a → y ≡ b → (bits64 (bits64 x -ℤ bits64 y) ≡ a -ℤ b) × (nat_abs (bits64 (bits64 x -ℤ bits64 y)) < 2 ^ 38)
  residual_is p q =
      let e = to_z-of_z residual-fits ∙ ap₂ (λ (a b : ℤ). a -ℤ b) (to_z-of_z fx) (to_z-of_z fy) in
      (e ∙ ap₂ (λ (a b : ℤ). a -ℤ b) p q, rw e abs_residual)
