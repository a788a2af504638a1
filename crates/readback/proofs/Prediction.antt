-- Prediction: samples come back from their residuals, which fit 32 bits (RFC 9639 section 9.2.5). Assumes nothing.
use Prim.Native.Nat.{ℕ, ◌+◌, ◌*◌, ◌^◌, ◌≤◌, ◌<◌}
use native.Mathlib.Nat.{mul-le-mul_left}
use native.Mathlib.Omega.{arith}
use mathlib.Core.Path.{◌≡◌, refl, ap, ◌∙◌}
use mathlib.Core.Bool.{Bool, true, false, cond}
use mathlib.Core.List.{List, [], ◌∷◌, ◌++◌, reverse, reverse_aux}
use lib.Dec.{eqb}
use lib.IntN.{ℤ, pos, negsuc, nat_abs, neg_ℤ, ◌+ℤ◌, ◌-ℤ◌, ◌*ℤ◌, +ℤ_comm, -ℤ-+ℤ_cancel}
use lib.ListN.{take, drop, take-append-drop}
use Rattle.reading.proofs.Postconditions.{Every, every_take, every_drop, total}
use Rattle.rfc9639.specs.Integers.{wrapped, shift_down}
use Rattle.rfc9639.specs.Prediction.{dot, predicted, restored, predict, fixed_coefficients}
use Rattle.rfc9639.specs.SubframeCoding.{fold, residuals, fixed_residuals}
use Rattle.rfc9639.proofs.Widths.{Fits, wrapped_same}
use Rattle.rfc9639.proofs.Magnitudes.{abs_of_fits, abs_add, abs_neg, abs_mul, abs_shift_down}
use Rattle.reading.proofs.TestChains.{by_test}
use Rattle.readback.proofs.SamplesAndResiduals.{Small}

-- ---- the samples come back

module _ (cs : List ℤ) (shift : ℕ) where
  -- one sample comes back from its residual
  predicted-back : (before : List ℤ) (x : ℤ) → Fits 32 x → predicted cs shift before (x -ℤ shift_down shift (dot (pos 0) cs before)) ≡ x
  unfolding predicted
  predicted-back before x f =
      let p = shift_down shift (dot (pos 0) cs before) in
      ap (wrapped 32) (+ℤ_comm p (x -ℤ p) ∙ -ℤ-+ℤ_cancel x p) ∙ wrapped_same 32 x (omega arith) f

  restored-residuals : (before xs : List ℤ) → Every (Fits 32) xs → restored cs shift before (residuals cs shift before xs) ≡ xs
  unfolding restored residuals
  restored-residuals before [] h = refl
  restored-residuals before (x ∷ xs) h =
      ap (λ y. y ∷ restored cs shift (y ∷ before) (residuals cs shift (x ∷ before) xs)) (predicted-back before x h.0)
      ∙ ap (λ ys. x ∷ ys) (restored-residuals (x ∷ before) xs h.1)

pub predict-fixed_residuals : (order : ℕ) (xs : List ℤ) → Every (Fits 32) xs → predict (fixed_coefficients order) 0 (take order xs) (fixed_residuals order xs) ≡ xs
unfolding predict fixed_residuals
predict-fixed_residuals order xs h =
    ap (λ ys. take order xs ++ ys) (restored-residuals (fixed_coefficients order) 0 (reverse (take order xs)) (drop order xs) (every_drop (Fits 32) order xs h))
    ∙ take-append-drop order xs

-- ---- how large a residual is

small_of_abs : (r : ℤ) → nat_abs r < 2 ^ 31 → Small r
unfolding fold
small_of_abs (pos n) h = omega arith
small_of_abs (negsuc n) h = omega arith

-- the sum of the coefficients' absolute values
abbrev weight : List ℤ → ℕ
weight = total nat_abs

abs_dot : (acc : ℤ) (cs xs : List ℤ) → Every (Fits 25) xs → nat_abs (dot acc cs xs) ≤ nat_abs acc + weight cs * 2 ^ 24
unfolding dot
abs_dot acc [] xs h = omega arith
abs_dot acc (c ∷ cs) [] h = omega arith
abs_dot acc (c ∷ cs) (x ∷ xs) h =
    omega (arith, abs_dot (acc +ℤ c *ℤ x) cs xs h.1, abs_add acc (c *ℤ x), abs_mul c x, mul-le-mul_left (nat_abs c) (abs_of_fits h.0))

module _ (cs : List ℤ) (few : weight cs ≤ 15) where
  residual-small : (before : List ℤ) (x : ℤ) → Every (Fits 25) before → Fits 25 x → Small (x -ℤ shift_down 0 (dot (pos 0) cs before))
  residual-small before x h f =
      let p = shift_down 0 (dot (pos 0) cs before) in
      small_of_abs (x -ℤ p)
      (omega (arith, abs_add x (neg_ℤ p), abs_neg p, abs_shift_down 0 (dot (pos 0) cs before), abs_dot (pos 0) cs before h, abs_of_fits f))

  residuals-small : (before xs : List ℤ) → Every (Fits 25) before → Every (Fits 25) xs → Every Small (residuals cs 0 before xs)
  unfolding residuals
  residuals-small before [] g h = tt
  residuals-small before (x ∷ xs) g h = (residual-small before x g h.0, residuals-small (x ∷ before) xs (h.0, g) h.1)

fixed-weight : (order : ℕ) → weight (fixed_coefficients order) ≤ 15
unfolding fixed_coefficients
fixed-weight order =
    test (eqb order 0) _ _ (λ _. omega arith)
    (λ _. test (eqb order 1) _ _ (λ _. omega arith)
    (λ _. test (eqb order 2) _ _ (λ _. omega arith) (λ _. test (eqb order 3) _ _ (λ _. omega arith) (λ _. omega arith))))
  where
    test : (b : Bool) (x y : List ℤ) → (b ≡ true → weight x ≤ 15) → (b ≡ false → weight y ≤ 15) → weight (cond b x y) ≤ 15
    test = by_test (λ cs. weight cs ≤ 15)

every-reverse : {A : Type 0} (P : A → Type 0) (xs ys : List A) → Every P xs → Every P ys → Every P (reverse_aux xs ys)
every-reverse P [] ys h g = g
every-reverse P (x ∷ xs) ys h g = every-reverse P xs (x ∷ ys) h.1 (h.0, g)

pub fixed_residuals-small : (order : ℕ) (xs : List ℤ) → Every (Fits 25) xs → Every Small (fixed_residuals order xs)
unfolding fixed_residuals
fixed_residuals-small order xs h =
    residuals-small (fixed_coefficients order) (fixed-weight order) (reverse (take order xs)) (drop order xs)
    (every-reverse (Fits 25) (take order xs) [] (every_take (Fits 25) order xs h) tt)
    (every_drop (Fits 25) order xs h)
