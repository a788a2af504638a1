-- A slice filled from the start: a loop that stores one value of any reader in each turn. Assumes nothing.
use Prim.Native.Nat.{ℕ, suc, ◌+◌, ◌-◌, ◌≤◌, ◌<◌}
use native.Mathlib.Nat.{sub-zero}
use native.Mathlib.Numerals.{add-one}
use native.Mathlib.Omega.{arith}
use mathlib.Core.Path.{◌≡◌, refl, ap, sym, ◌∙◌}
use mathlib.Core.List.{List, []}
use lib.IntN.{ℤ}
use lib.ListN.{length, take, set, length-set}
use lib.Seq.{take-suc-set, take_all}
use mir.Syntax.{w32}
use mir.Val.{SFits, to_z, of_z}
use mir.Facts.{to_z-of_z}
use Rattle.std.specs.Prelude.{Result}
use Rattle.std.specs.Result.{IsErrAnd}
use Rattle.reading.specs.declared.Place.{Place}
use Rattle.reading.specs.Readers.{Ask, many}
use Rattle.reading.specs.Places.{got_at, run_at}
use Rattle.reading.proofs.ByteRuns.{In, stays_in, prepended, prepended_nil, many-end, many-step}
use Rattle.error.specs.declared.Refusal.{Refusal}
use Rattle.error.specs.Numbers.{refused_by}
use Rattle.error.proofs.Refusals.{bind_refusal}
use Rattle.subframe.specs.Answers.{samples_at}
use Rattle.subframe.proofs.SliceParts.{samples_stop, prepended-refusal}

-- the slice held l₀, its first i are filled, and it holds l now
pub record Filling (p : Ask ℤ) (s : List ℕ) (at₀ : Place) (l₀ l : List ℤ) (i : ℕ) (at : Place) : Type 0 where
  pub place : In s at
  pub within : i ≤ length l
  pub long : length l ≡ length l₀
  pub same : run_at (many (length l₀) p) s at₀ ≡ prepended (take i l) (run_at (many (length l₀ - i) p) s at)

pub begin : (p : Ask ℤ) {s : List ℕ} {at : Place} (l : List ℤ) → In s at → Filling p s at l l 0 at
begin p {s} {at} l h = record {
  place = h;
  within = omega arith;
  long = refl;
  same = sym (prepended_nil _) ∙ ap (λ n. prepended [] (run_at (many n p) s at)) (sym (sub-zero (length l)));
}

module _ {p : Ask ℤ} {s : List ℕ} {at₀ : Place} {l₀ l : List ℤ} {i : ℕ} {at : Place} (inv : Filling p s at₀ l₀ l i at) where
  next : i < length l → run_at (many (length l₀) p) s at₀ ≡ prepended (take i l) (run_at (many (suc (length l₀ - (i + 1))) p) s at)
  next h =
      inv.same ∙ ap (λ n. prepended (take i l) (run_at (many n p) s at)) (let e : length l₀ - i ≡ suc (length l₀ - (i + 1)) = omega (arith, inv.long) in e)

  filled : {x : ℤ} {at' : Place} → i < length l → run_at p s at ≡ got_at x at' → Filling p s at₀ l₀ (set l i x) (i + 1) at'
  filled {x} {at'} h e = record {
    place = stays_in p s at e;
    within = simp length-set (omega arith);
    long = simp length-set inv.long;
    same =
        next h ∙ many-step p s (take i l) at (length l₀ - (i + 1)) e
        ∙ ap (λ t. prepended t (run_at (many (length l₀ - (i + 1)) p) s at')) (sym (take-suc-set l i x h) ∙ ap (λ n. take n (set l i x)) (sym (add-one i)));
  }

  -- a turn and the way out, by what the reader's function answered; the code stores a signed value by its bits
  pub step : {z : ℤ} {q : Place} → got_at z q ≡ run_at p s at → SFits w32 z → i < length l → Filling p s at₀ l₀ (set l i (to_z w32 (of_z w32 z))) (i + 1) q
  step e f h = rw (to_z-of_z f) (filled h (sym e))

  pub stops : (e : Refusal) (r : Result Place Refusal) → IsErrAnd r (λ y. y ≡ e) → refused_by e ≡ run_at p s at → i < length l → (left : List ℤ)
      → samples_at r left ≡ run_at (many (length l₀) p) s at₀
  unfolding many
  stops e r d f h =
      samples_stop e r d (sym (next h ∙ ap (prepended (take i l)) (bind_refusal p s at _ e (sym f)) ∙ prepended-refusal (take i l) e))

  pub end : length l ≤ i → got_at l at ≡ run_at (many (length l₀) p) s at₀
  end h =
      sym
      (inv.same ∙ ap (λ n. prepended (take i l) (run_at (many n p) s at)) (let e : length l₀ - i ≡ 0 = omega (arith, inv.long) in e)
      ∙ many-end p s (take i l) at inv.place ∙ ap (λ t. got_at t at) (take_all i l h))
