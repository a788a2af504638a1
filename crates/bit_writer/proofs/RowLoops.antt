-- Loops that write a row, one element in each turn: the invariant is what is still to be written. Assumes nothing.
use Prim.Native.Nat.{ℕ, suc, ◌+◌, ◌≤◌, ◌<◌}
use native.Mathlib.Numerals.{add-one}
use mathlib.Core.Path.{◌≡◌, refl, ap, sym, ◌∙◌}
use mathlib.Core.List.{List, ◌∷◌}
use lib.ListN.{length, get_or, drop, drop_of_length-le}
use lib.Seq.{drop-cons}
use Rattle.reading.specs.NumbersAsBits.{row}
use Rattle.reading.proofs.NumbersAsBits.{Binary}
use Rattle.bit_writer.specs.declared.BitWriter.{BitWriter}
use Rattle.bit_writer.specs.PenWrites.{State, inked, SameOutput, Appends}
use Rattle.bit_writer.proofs.ConsecutiveWrites.{same_output, same_then}
use Rattle.bit_writer.proofs.InkedBits.{inked_nothing, inked_append, inked-length}

-- The elements of ys from i on are still to be written, and writing them from here gives the whole result.
pub record Unwritten {A : Type 0} (f : A → List ℕ) (ys : List A) (w₀ : BitWriter) (i : ℕ) (w : BitWriter) : Type 0 where
  pub output : SameOutput w₀.out w.out
  pub same : inked (row f ys) w₀.pen w₀.out.now ≡ inked (row f (drop i ys)) w.pen w.out.now
  pub long : length w.out.now ≡ length w₀.out.now

module _ {A : Type 0} {f : A → List ℕ} {ys : List A} where
  pub begin : (w : BitWriter) → Unwritten f ys w 0 w
  begin w = record { output = same_output; same = refl; long = refl }

  module _ {w₀ : BitWriter} {i : ℕ} {w : BitWriter} (inv : Unwritten f ys w₀ i w) where
    -- one more of them
    pub step : (d : A) {y : A} → i < length ys → y ≡ get_or ys i d → Binary (f y) → {after : BitWriter} → Appends (f y) w after → Unwritten f ys w₀ (i + 1) after
    unfolding row
    step d {y} h g b {after} a = record {
      output = same_then inv.output a.same;
      same =
          inv.same
          ∙ ap (λ (l : List A). inked (row f l) w.pen w.out.now) (drop-cons ys i d h ∙ ap (λ (x : A). x ∷ drop (suc i) ys) (sym g))
          ∙ inked_append (f y) (row f (drop (suc i) ys)) w.pen w.out.now b.bits
          ∙ ap (λ (x : State). inked (row f (drop (suc i) ys)) x.pen x.bytes) (sym a.written)
          ∙ ap (λ (n : ℕ). inked (row f (drop n ys)) after.pen after.out.now) (sym (add-one i));
      long = ap (λ (x : State). length x.bytes) a.written ∙ inked-length (f y) w.pen w.out.now ∙ inv.long;
    }

    pub end : length ys ≤ i → Appends (row f ys) w₀ w
    unfolding row
    end h = record {
      same = inv.output;
      written =
          sym (inv.same ∙ ap (λ (l : List A). inked (row f l) w.pen w.out.now) (drop_of_length-le ys h) ∙ inked_nothing w.pen w.out.now);
    }
