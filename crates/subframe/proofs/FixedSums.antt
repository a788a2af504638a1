-- The fixed predictors of order 1 to 3: their coefficients, and their sums by sums and differences. Assumes nothing.
use Prim.Native.Nat.{ℕ, suc, ◌+◌, ◌-◌, ◌*◌, ◌^◌, ◌≤◌, ◌<◌}
use native.Mathlib.Nat.{mul-le-mul, sub-zero, le_refl}
use native.Mathlib.Omega.{arith}
use mathlib.Core.Path.{◌≡◌, refl, ap, ap₂, sym, ◌∙◌}
use mathlib.Core.List.{List, [], ◌∷◌, reverse}
use lib.IntN.{ℤ, pos, negsuc, nat_abs, neg_ℤ, ◌+ℤ◌, ◌-ℤ◌, ◌*ℤ◌, one, +ℤ_idl, +ℤ_assoc, +ℤ_comm, neg_ℤ-+ℤ, neg_ℤ-neg_ℤ, *ℤ_comm, *ℤ-one, suc_ℤ-*ℤ}
use lib.ListN.{length, get_or, drop, drop_of_length-le, length-reverse}
use lib.Seq.{drop-cons}
use mir.Syntax.{w32, w64}
use mir.Val.{SFits, to_z, of_z}
use mir.Facts.{to_z-of_z}
use Rattle.rfc9639.specs.Prediction.{dot, fixed_coefficients}
use Rattle.rfc9639.proofs.Widths.{of_sfits}
use Rattle.number.proofs.ProductSums.{sfits_of_abs, abs_of_fits, abs_add, abs_neg, abs_mul}
use Rattle.subframe.proofs.PredictionSums.{reverse_at}

-- ---- a row of coefficients, read from its end

-- the code compares a coefficient by its bits
coefficient_is : (l : List ℤ) (i : ℕ) {n : ℕ} {rest : List ℤ} → i < length l → SFits w32 (get_or l i (pos 0)) → of_z w32 (get_or l i (pos 0)) ≡ n
    → drop (suc i) l ≡ rest → drop i l ≡ to_z w32 n ∷ rest
coefficient_is l i h f e d = drop-cons l i (pos 0) h ∙ ap₂ (λ (x : ℤ) (r : List ℤ). x ∷ r) (sym (to_z-of_z f) ∙ ap (to_z w32) e) d

row-end : (l : List ℤ) (i : ℕ) → length l ≡ i → drop i l ≡ []
row-end l i e = drop_of_length-le l (let h : length l ≤ i = omega arith in h)

module _ (l : List ℤ) (fit : (i : ℕ) → i < length l → SFits w32 (get_or l i (pos 0))) where
  abbrev coefficient : ℕ → ℕ
  coefficient i = of_z w32 (get_or l i (pos 0))

  pub row_1 : length l ≡ 1 → coefficient 0 ≡ 1 → l ≡ fixed_coefficients 1
  unfolding fixed_coefficients
  row_1 n e = coefficient_is l 0 (omega arith) (fit 0 (omega arith)) e (row-end l 1 n)

  pub row_2 : length l ≡ 2 → coefficient 0 ≡ 2 → coefficient 1 ≡ 2 ^ 32 - 1 → l ≡ fixed_coefficients 2
  unfolding fixed_coefficients
  row_2 n e f = coefficient_is l 0 (omega arith) (fit 0 (omega arith)) e (coefficient_is l 1 (omega arith) (fit 1 (omega arith)) f (row-end l 2 n))

  pub row_3 : length l ≡ 3 → coefficient 0 ≡ 3 → coefficient 1 ≡ 2 ^ 32 - 3 → coefficient 2 ≡ 1 → l ≡ fixed_coefficients 3
  unfolding fixed_coefficients
  row_3 n e f g =
      coefficient_is l 0 (omega arith) (fit 0 (omega arith)) e
      (coefficient_is l 1 (omega arith) (fit 1 (omega arith)) f (coefficient_is l 2 (omega arith) (fit 2 (omega arith)) g (row-end l 3 n)))

-- ---- multiples of a number

one_times : (k : ℤ) → pos 1 *ℤ k ≡ k
unfolding one
one_times k = *ℤ_comm (pos 1) k ∙ *ℤ-one k

negsuc_times : (m : ℕ) (k : ℤ) → negsuc m *ℤ k ≡ neg_ℤ (pos (suc m) *ℤ k)
negsuc_times m (pos n) = refl
negsuc_times m (negsuc n) = sym (neg_ℤ-neg_ℤ (pos (suc m * suc n)))

thrice : (k : ℤ) → pos 3 *ℤ k ≡ k +ℤ k +ℤ k
thrice k = suc_ℤ-*ℤ (pos 2) k ∙ ap (λ (z : ℤ). z +ℤ k) (suc_ℤ-*ℤ (pos 1) k ∙ ap (λ (z : ℤ). z +ℤ k) (one_times k))

cross : (a b c d : ℤ) → a +ℤ b +ℤ (c +ℤ d) ≡ a +ℤ c +ℤ (b +ℤ d)
cross a b c d =
    +ℤ_assoc a b (c +ℤ d) ∙ ap (λ (z : ℤ). a +ℤ z) (sym (+ℤ_assoc b c d) ∙ ap (λ (z : ℤ). z +ℤ d) (+ℤ_comm b c) ∙ +ℤ_assoc c b d)
    ∙ sym (+ℤ_assoc a c (b +ℤ d))

thrice-less : (a b : ℤ) → pos 3 *ℤ (a -ℤ b) ≡ pos 3 *ℤ a -ℤ pos 3 *ℤ b
thrice-less a b =
    thrice (a -ℤ b) ∙ ap (λ (z : ℤ). z +ℤ (a -ℤ b)) (cross a (neg_ℤ b) a (neg_ℤ b)) ∙ cross (a +ℤ a) (neg_ℤ b +ℤ neg_ℤ b) a (neg_ℤ b)
    ∙ ap₂ (λ (y z : ℤ). y +ℤ z) (sym (thrice a)) (sym (ap neg_ℤ (thrice b) ∙ neg_ℤ-+ℤ (b +ℤ b) b ∙ ap (λ (z : ℤ). z -ℤ b) (neg_ℤ-+ℤ b b)))

-- ---- the sums, of samples that start with the latest

sum_1 : (xs : List ℤ) → 1 ≤ length xs → get_or xs 0 (pos 0) ≡ dot (pos 0) (fixed_coefficients 1) xs
unfolding dot fixed_coefficients
sum_1 [] h = absurd (omega arith)
sum_1 (x ∷ xs) h = sym (+ℤ_idl (pos 1 *ℤ x) ∙ one_times x)

sum_2 : (xs : List ℤ) → 2 ≤ length xs → pos 2 *ℤ get_or xs 0 (pos 0) -ℤ get_or xs 1 (pos 0) ≡ dot (pos 0) (fixed_coefficients 2) xs
unfolding dot fixed_coefficients
sum_2 [] h = absurd (omega arith)
sum_2 (x ∷ []) h = absurd (omega arith)
sum_2 (x ∷ y ∷ xs) h = sym (ap₂ (λ (a b : ℤ). a +ℤ b) (+ℤ_idl (pos 2 *ℤ x)) (negsuc_times 0 y ∙ ap neg_ℤ (one_times y)))

sum_3 : (xs : List ℤ) → 3 ≤ length xs
    → pos 3 *ℤ (get_or xs 0 (pos 0) -ℤ get_or xs 1 (pos 0)) +ℤ get_or xs 2 (pos 0) ≡ dot (pos 0) (fixed_coefficients 3) xs
unfolding dot fixed_coefficients
sum_3 [] h = absurd (omega arith)
sum_3 (x ∷ []) h = absurd (omega arith)
sum_3 (x ∷ y ∷ []) h = absurd (omega arith)
sum_3 (x ∷ y ∷ z ∷ xs) h =
    ap₂ (λ (a b : ℤ). a +ℤ b) (thrice-less x y ∙ ap₂ (λ (a b : ℤ). a +ℤ b) (sym (+ℤ_idl (pos 3 *ℤ x))) (sym (negsuc_times 2 y))) (sym (one_times z))

-- ---- as the code has them: the samples in their order, the latest last

module _ (before : List ℤ) {order : ℕ} (long : order ≤ length before) where
  abbrev at : ℕ → ℤ
  at i = get_or before i (pos 0)

  latest : 0 < order → at (length before - 1) ≡ get_or (reverse before) 0 (pos 0)
  latest h = ap at (sym (sub-zero (length before - 1))) ∙ sym (reverse_at before 0 (omega arith))

  enough : order ≤ length (reverse before)
  enough = omega (arith, length-reverse before)

  pub fixed_sum_1 : order ≡ 1 → at (length before - 1) ≡ dot (pos 0) (fixed_coefficients order) (reverse before)
  fixed_sum_1 e = rw e (latest (omega arith) ∙ sum_1 (reverse before) (omega (arith, enough)))

  pub fixed_sum_2 : order ≡ 2 → pos 2 *ℤ at (length before - 1) -ℤ at (length before - 1 - 1) ≡ dot (pos 0) (fixed_coefficients order) (reverse before)
  fixed_sum_2 e =
      rw e
      (ap₂ (λ (a b : ℤ). pos 2 *ℤ a -ℤ b) (latest (omega arith)) (sym (reverse_at before 1 (omega arith))) ∙ sum_2 (reverse before) (omega (arith, enough)))

  pub fixed_sum_3 : order ≡ 3
      → pos 3 *ℤ (at (length before - 1) -ℤ at (length before - 1 - 1)) +ℤ at (length before - 1 - 2) ≡ dot (pos 0) (fixed_coefficients order) (reverse before)
  fixed_sum_3 e =
      rw e
      (ap₂ (λ (a b : ℤ). pos 3 *ℤ a +ℤ b) (ap₂ (λ (a b : ℤ). a -ℤ b) (latest (omega arith)) (sym (reverse_at before 1 (omega arith)))) (sym (reverse_at before 2 (omega arith)))
      ∙ sum_3 (reverse before) (omega (arith, enough)))

-- ---- exact at 64 bits: x, which the code passes by its bits, is y, of size n at most

pub record Exact (x y : ℤ) (n : ℕ) : Type 0 where
  pub fits : SFits w64 x
  pub is : to_z w64 (of_z w64 x) ≡ y
  pub bound : nat_abs y ≤ n

exact : {x y : ℤ} {n : ℕ} → n < 2 ^ 63 → x ≡ y → nat_abs y ≤ n → Exact x y n
exact {x} {y} h e b = record { fits = f; is = to_z-of_z f ∙ e; bound = b }
  where
    f : SFits w64 x
    f = rw e (sfits_of_abs y (omega arith))

-- sample i
abbrev pub ExactAt : List ℤ → ℕ → Type 0
ExactAt l i = Exact (to_z w32 (of_z w32 (get_or l i (pos 0)))) (get_or l i (pos 0)) (2 ^ 31)

pub exact_at : (l : List ℤ) (i : ℕ) → SFits w32 (get_or l i (pos 0)) → ExactAt l i
exact_at l i f = exact (omega arith) (to_z-of_z f) (abs_of_fits (of_sfits f))

module _ {x a : ℤ} {m : ℕ} (p : Exact x a m) where
  pub exact_multiple : (k : ℕ) → k * m < 2 ^ 63 → Exact (pos k *ℤ to_z w64 (of_z w64 x)) (pos k *ℤ a) (k * m)
  exact_multiple k h = exact h (ap (λ (z : ℤ). pos k *ℤ z) p.is) (rw abs_mul (mul-le-mul {n₂ = k} {m₂ = m} (le_refl k) p.bound))

  pub exact-answer : {d : ℤ} → a ≡ d → m < 2 ^ 62 → (to_z w64 (of_z w64 x) ≡ d) × (nat_abs (to_z w64 (of_z w64 x)) < 2 ^ 62)
  exact-answer e h = (p.is ∙ e, rw p.is (omega (arith, p.bound)))

  module _ {y b : ℤ} {n : ℕ} (q : Exact y b n) (h : m + n < 2 ^ 63) where
    pub exact-sum : Exact (to_z w64 (of_z w64 x) +ℤ to_z w64 (of_z w64 y)) (a +ℤ b) (m + n)
    exact-sum = exact h (ap₂ (λ (c d : ℤ). c +ℤ d) p.is q.is) (omega (arith, abs_add a b, p.bound, q.bound))

    pub exact_difference : Exact (to_z w64 (of_z w64 x) -ℤ to_z w64 (of_z w64 y)) (a -ℤ b) (m + n)
    exact_difference = exact h (ap₂ (λ (c d : ℤ). c -ℤ d) p.is q.is) (omega (arith, abs_add a (neg_ℤ b), abs_neg b, p.bound, q.bound))
