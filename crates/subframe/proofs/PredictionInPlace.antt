-- Prediction in place: a block restored sample by sample. Assumes nothing.
use Prim.Native.Nat.{ℕ, suc, ◌+◌, ◌-◌, ◌≤◌, ◌<◌}
use native.Mathlib.Numerals.{add-one}
use native.Mathlib.Omega.{arith}
use mathlib.Core.Path.{◌≡◌, refl, ap, ap₂, sym, ◌∙◌}
use mathlib.Core.List.{List, [], ◌∷◌, ◌++◌, append-nil, reverse, reverse-append}
use lib.IntN.{ℤ, pos, ◌+ℤ◌}
use lib.ListN.{length, get_or, take, drop, set, length-set}
use lib.Seq.{take-suc-set, drop-cons, drop-set-lt, append_snoc, take_all, drop-length}
use mir.Syntax.{w32, w64}
use mir.Val.{SFits, to_z, of_z}
use mir.Facts.{to_z-of_z}
use Rattle.rfc9639.specs.Integers.{wrapped, shift_down}
use Rattle.rfc9639.specs.Prediction.{dot, predicted, restored, predict}
use Rattle.subframe.specs.Private.{predicted_in_place}
use Rattle.subframe.proofs.PredictionSums.{dot-latest}

-- the block of a slice that holds its first i samples, then the residual
unfoldable pub resumed : List ℤ → ℕ → List ℤ → ℕ → List ℤ
resumed cs shift l i = take i l ++ restored cs shift (reverse (take i l)) (drop i l)

-- a slice that held i₀ samples in l₀ holds i samples in l
pub record Restored (cs : List ℤ) (shift : ℕ) (l₀ : List ℤ) (i₀ : ℕ) (l : List ℤ) (i : ℕ) : Type 0 where
  pub least : i₀ ≤ i
  pub within : i ≤ length l
  pub long : length l ≡ length l₀
  pub same : resumed cs shift l₀ i₀ ≡ resumed cs shift l i

pub begin : (cs : List ℤ) (shift : ℕ) (l : List ℤ) (i : ℕ) → i ≤ length l → Restored cs shift l i l i
begin cs shift l i h = record { least = omega arith; within = h; long = refl; same = refl }

module _ {cs : List ℤ} {shift : ℕ} {l₀ : List ℤ} {i₀ : ℕ} {l : List ℤ} {i : ℕ} (inv : Restored cs shift l₀ i₀ l i) where
  step : (z : ℤ) → i < length l → z ≡ predicted cs shift (reverse (take i l)) (get_or l i (pos 0)) → Restored cs shift l₀ i₀ (set l i z) (i + 1)
  unfolding resumed restored
  step z h e = record {
    least = omega (arith, inv.least);
    within = simp length-set (omega arith);
    long = simp length-set inv.long;
    same =
        inv.same ∙ ap (λ (r : List ℤ). take i l ++ restored cs shift (reverse (take i l)) r) (drop-cons l i (pos 0) h)
        ∙ ap (λ (y : ℤ). take i l ++ y ∷ restored cs shift (y ∷ reverse (take i l)) (drop (suc i) l)) (sym e)
        ∙ sym (append_snoc (take i l) z (restored cs shift (z ∷ reverse (take i l)) (drop (suc i) l)))
        ∙ ap (λ (r : List ℤ). take i l ++ (z ∷ []) ++ restored cs shift r (drop (suc i) l)) (sym (reverse-append (take i l) (z ∷ [])))
        ∙ ap₂ (λ (f r : List ℤ). f ++ restored cs shift (reverse f) r) (sym (take-suc-set l i z h)) (sym (drop-set-lt (suc i) l i z (omega arith)))
        ∙ ap (λ n. take n (set l i z) ++ restored cs shift (reverse (take n (set l i z))) (drop n (set l i z))) (sym (add-one i));
  }

  -- the latest samples are enough; the code passes a signed value by its bits
  pub turn : length cs ≡ i₀ → (sum z : ℤ) → i < length l → sum ≡ dot (pos 0) cs (reverse (take (i - (i - i₀)) (drop (i - i₀) l)))
      → z ≡ wrapped 32 (shift_down shift (to_z w64 (of_z w64 sum)) +ℤ to_z w32 (of_z w32 (get_or l i (pos 0))))
      → SFits w64 sum → SFits w32 (get_or l i (pos 0)) → SFits w32 z → Restored cs shift l₀ i₀ (set l i (to_z w32 (of_z w32 z))) (i + 1)
  unfolding predicted
  turn m sum z h e d f g k =
      rw (to_z-of_z k) (step z h (d ∙ ap₂ (λ (a b : ℤ). wrapped 32 (shift_down shift a +ℤ b)) (to_z-of_z f ∙ e ∙ latest) (to_z-of_z g)))
    where
      latest : dot (pos 0) cs (reverse (take (i - (i - i₀)) (drop (i - i₀) l))) ≡ dot (pos 0) cs (reverse (take i l))
      latest = dot-latest cs l i₀ i (omega arith) inv.least inv.within

  pub end : length l ≤ i → l ≡ resumed cs shift l₀ i₀
  unfolding resumed restored
  end h =
      sym (inv.same ∙ ap₂ (λ (f r : List ℤ). f ++ restored cs shift (reverse (take i l)) r) (take_all i l h) none ∙ append-nil l)
    where
      none : drop i l ≡ []
      none = ap (λ n. drop n l) (let e : i ≡ length l = omega (arith, inv.within) in e) ∙ drop-length l

-- the whole block, as the definition has it
pub resumed-predict : (cs : List ℤ) (shift : ℕ) (l : List ℤ) (n : ℕ) → length cs ≡ n → resumed cs shift l n ≡ predicted_in_place cs shift l
unfolding resumed predict
resumed-predict cs shift l n e = ap (resumed cs shift l) (sym e)
