-- Lengths: how many samples and residuals the writer stores. Assumes nothing.
use Prim.Native.Nat.{ℕ, suc, ◌-◌, ◌*◌, ◌≤◌, min}
use native.Mathlib.Nat.{zero-min, min-zero, suc-min-suc}
use native.Mathlib.Omega.{arith}
use mathlib.Core.Path.{◌≡◌, refl, ap, sym, ◌∙◌}
use mathlib.Core.List.{List, [], ◌∷◌, reverse}
use lib.IntN.{ℤ}
use lib.ListN.{length, take, drop, length-take, length-drop}
use Rattle.rfc9639.specs.declared.Lane.{Lane}
use Rattle.rfc9639.specs.declared.Lane.TheVariants.{Channel, Mid, Side}
use Rattle.rfc9639.specs.Prediction.{fixed_coefficients}
use Rattle.rfc9639.specs.Stereo.{pairwise}
use Rattle.rfc9639.specs.SubframeCoding.{residuals, fixed_residuals}
use Rattle.rfc9639.specs.Write.{mid_of, side_of, channel_samples, stored}

pub length-residuals : (cs : List ℤ) (shift : ℕ) (before xs : List ℤ) → length (residuals cs shift before xs) ≡ length xs
unfolding residuals
length-residuals cs shift before [] = refl
length-residuals cs shift before (x ∷ xs) = ap suc (length-residuals cs shift (x ∷ before) xs)

pub length-fixed_residuals : (order : ℕ) (xs : List ℤ) → length (fixed_residuals order xs) ≡ length xs - order
unfolding fixed_residuals
length-fixed_residuals order xs = length-residuals (fixed_coefficients order) 0 (reverse (take order xs)) (drop order xs) ∙ length-drop order xs

pub length-pairwise : (f : ℤ → ℤ → ℤ) (xs ys : List ℤ) → length (pairwise f xs ys) ≡ min (length xs) (length ys)
unfolding pairwise
length-pairwise f [] ys = sym (zero-min (length ys))
length-pairwise f (x ∷ xs) [] = sym (min-zero (suc (length xs)))
length-pairwise f (x ∷ xs) (y ∷ ys) = ap suc (length-pairwise f xs ys) ∙ sym (suc-min-suc (length xs) (length ys))

pub length-channel_samples : (n : ℕ) (xs : List ℤ) (c : ℕ) → length (channel_samples n xs c) ≡ min n (length xs - c * n)
unfolding channel_samples
length-channel_samples n xs c = length-take n (drop (c * n) xs) ∙ ap (min n) (length-drop (c * n) xs)

-- a lane stores at most n samples
pub stored_at_most : (n : ℕ) (xs : List ℤ) (lane : Lane) → length (stored n xs lane) ≤ n
unfolding stored
stored_at_most n xs (Channel c) = omega (arith, length-channel_samples n xs c)
stored_at_most n xs Mid = omega (arith, length-pairwise mid_of (channel_samples n xs 0) (channel_samples n xs 1), length-channel_samples n xs 0)
stored_at_most n xs Side = omega (arith, length-pairwise side_of (channel_samples n xs 0) (channel_samples n xs 1), length-channel_samples n xs 0)
