-- The invariant of `fill`: the samples before i are x. Assumes nothing.
use Prim.Native.Nat.{ℕ, ◌+◌, ◌-◌, ◌≤◌, ◌<◌}
use native.Mathlib.Numerals.{add-one}
use native.Mathlib.Omega.{arith}
use mathlib.Core.Path.{◌≡◌, refl, ap, ap₂, sym, ◌∙◌}
use mathlib.Core.List.{List, [], ◌∷◌, ◌++◌}
use lib.IntN.{ℤ}
use lib.ListN.{length, take, set, replicate, length-set, length-replicate, replicate-append-replicate}
use lib.Seq.{take-suc-set, take_all, take-take, take_at}

-- of `count` samples the first i are x
pub record Filled (x : ℤ) (count : ℕ) (out : List ℤ) (i : ℕ) : Type 0 where
  pub long : length out ≡ count
  pub done : take i out ≡ replicate i x

pub begin : (x : ℤ) (out : List ℤ) → Filled x (length out) out 0
begin x out = record { long = refl; done = refl }

module _ {x : ℤ} {count : ℕ} {out : List ℤ} {i : ℕ} (f : Filled x count out i) where
  pub step : i < count → (y : ℤ) → y ≡ x → Filled x count (set out i y) (i + 1)
  step h y e = record {
    long = length-set out i y ∙ f.long;
    done =
        ap (λ n. take n (set out i y)) (add-one i) ∙ take-suc-set out i y (omega (arith, f.long)) ∙ ap₂ (λ l z. l ++ (z ∷ [])) f.done e
        ∙ replicate-append-replicate i 1 x;
  }

  take_of_replicate : (n : ℕ) → n ≤ i → take n (replicate i x) ≡ replicate n x
  take_of_replicate n h = ap (take n) (ap (λ k. replicate k x) (let e : i ≡ n + (i - n) = omega arith in e) ∙ sym (replicate-append-replicate n (i - n) x)) ∙ take_at (replicate n x) (replicate (i - n) x) n (length-replicate n x)

  pub end : count ≤ i → out ≡ replicate count x
  end h =
      sym (take_all count out (omega (arith, f.long))) ∙ sym (take-take count i out h) ∙ ap (take count) f.done ∙ take_of_replicate count h
