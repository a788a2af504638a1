-- Residuals by index: each from its sample and the samples before it, the latest first. Assumes nothing.
use Prim.Native.Nat.{ℕ, zero, suc, ◌+◌, ◌-◌, ◌^◌, ◌≤◌, ◌<◌}
use native.Mathlib.Nat.{div-one}
use native.Mathlib.Omega.{arith}
use mathlib.Core.Path.{◌≡◌, refl, ap, ap₂, sym, ◌∙◌}
use mathlib.Core.List.{List, [], ◌∷◌, reverse, reverse_aux, reverse_aux-append, reverse-append}
use lib.IntN.{ℤ, pos, negsuc, nat_abs, ◌-ℤ◌}
use lib.ListN.{length, get_or, take, drop, length-drop, get_or-eq_default}
use lib.Seq.{take-add, take-suc, get_or-drop}
use Rattle.rfc9639.specs.Integers.{shift_down}
use Rattle.rfc9639.specs.Prediction.{dot, fixed_coefficients}
use Rattle.rfc9639.specs.SubframeCoding.{fold, residuals, fixed_residuals}
use Rattle.rfc9639.proofs.Lengths.{length-fixed_residuals}
use Rattle.subframe_samples.specs.Private.{predicted_at, residual_at}

-- ---- the residuals of any coefficients

residuals_at : (cs : List ℤ) (shift : ℕ) (before xs : List ℤ) (j : ℕ) → j < length xs
    → get_or (residuals cs shift before xs) j (pos 0) ≡ get_or xs j (pos 0) -ℤ shift_down shift (dot (pos 0) cs (reverse_aux (take j xs) before))
unfolding residuals
residuals_at cs shift before [] j h = absurd (omega arith)
residuals_at cs shift before (x ∷ xs) zero h = refl
residuals_at cs shift before (x ∷ xs) (suc j) h = residuals_at cs shift (x ∷ before) xs j (omega arith)

-- ---- the residuals of a fixed predictor

shift_none : (z : ℤ) → shift_down 0 z ≡ z
unfolding shift_down
shift_none (pos n) = ap pos (div-one n)
shift_none (negsuc n) = ap negsuc (div-one n)

pub fixed_residuals_at : (order : ℕ) (xs : List ℤ) (j : ℕ) → order + j < length xs → get_or (fixed_residuals order xs) j (pos 0) ≡ residual_at order xs (order + j)
unfolding fixed_residuals predicted_at
fixed_residuals_at order xs j h =
    residuals_at (fixed_coefficients order) 0 (reverse (take order xs)) (drop order xs) j (omega (arith, length-drop order xs))
    ∙ ap₂ (λ (x : ℤ) (before : List ℤ). x -ℤ shift_down 0 (dot (pos 0) (fixed_coefficients order) before)) (get_or-drop order xs j (pos 0))
    (sym (reverse_aux-append (take order xs) (take j (drop order xs)) []) ∙ ap (λ (l : List ℤ). reverse l) (sym (take-add order j xs)))
    ∙ ap (λ (z : ℤ). get_or xs (order + j) (pos 0) -ℤ z) (shift_none (predicted_at order xs (order + j)))

pub fixed_residuals-past-end : (order : ℕ) (xs : List ℤ) (j : ℕ) → length xs - order ≤ j → get_or (fixed_residuals order xs) j (pos 0) ≡ pos 0
fixed_residuals-past-end order xs j h = get_or-eq_default (fixed_residuals order xs) (pos 0) (rw length-fixed_residuals h)

-- a folded residual, by the size that `residual` promises
pub fold_of_small : (z : ℤ) → nat_abs z < 2 ^ 38 → fold z < 2 ^ 39
unfolding fold
fold_of_small (pos n) h = omega arith
fold_of_small (negsuc n) h = omega arith

-- ---- the samples before sample i, the latest first

pub reverse-take-latest : (xs : List ℤ) (i k : ℕ) → k < i → i ≤ length xs
    → reverse (take (i - k) xs) ≡ get_or xs (i - suc k) (pos 0) ∷ reverse (take (i - suc k) xs)
reverse-take-latest xs i k h l =
    ap (λ n. reverse (take n xs)) (let e : i - k ≡ suc (i - suc k) = omega arith in e)
    ∙ ap (λ (t : List ℤ). reverse t) (take-suc xs (i - suc k) (pos 0) (omega arith))
    ∙ reverse-append (take (i - suc k) xs) (get_or xs (i - suc k) (pos 0) ∷ [])
