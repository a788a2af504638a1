-- Equal samples: each is compared with the first. Assumes nothing.
use Prim.Native.Nat.{ℕ, suc, ◌+◌, ◌≤◌, ◌<◌}
use native.Mathlib.Numerals.{add-one}
use mathlib.Core.Path.{◌≡◌, refl, ap, sym, ◌∙◌}
use mathlib.Core.Bool.{true, false, ◌&&◌}
use mathlib.Core.List.{List, [], ◌∷◌}
use borrow.Author.Tests.{eq-eqb, ne_eqb}
use lib.IntN.{ℤ, pos, negsuc}
use lib.ListN.{length, get_or, drop, drop_of_length-le}
use lib.Seq.{drop-cons}
use mir.Syntax.{w64}
use mir.Val.{SFits, to_z, of_z}
use mir.Facts.{to_z-of_z}
use Rattle.rfc9639.specs.SubframeCoding.{equal_samples, uniform}

-- the second sample is compared with the first
uniform_cons : (x y : ℤ) (ys : List ℤ) → uniform (x ∷ y ∷ ys) ≡ equal_samples x y && uniform (x ∷ ys)
unfolding uniform
uniform_cons x y ys = refl

same_refl : (x : ℤ) → equal_samples x x ≡ true
unfolding equal_samples
same_refl (pos n) = eq-eqb n n refl
same_refl (negsuc n) = eq-eqb n n refl

same-other : (x y : ℤ) → (x ≡ y → ⊥) → equal_samples x y ≡ false
unfolding equal_samples
same-other (pos a) (pos b) h = ne_eqb a b (λ e. h (ap pos e))
same-other (pos a) (negsuc b) h = refl
same-other (negsuc a) (pos b) h = refl
same-other (negsuc a) (negsuc b) h = ne_eqb a b (λ e. h (ap negsuc e))

-- samples are compared by their bits
pub equal_by_bits : {x y : ℤ} → SFits w64 x → SFits w64 y → of_z w64 x ≡ of_z w64 y → x ≡ y
equal_by_bits f g e = sym (to_z-of_z f) ∙ ap (to_z w64) e ∙ to_z-of_z g

-- the samples before i equal the first
pub record Alike (xs : List ℤ) (i : ℕ) : Type 0 where
  pub from : uniform xs ≡ uniform (get_or xs 0 (pos 0) ∷ drop i xs)

pub begin : (xs : List ℤ) → Alike xs 1
unfolding uniform
begin [] = record { from = refl }
begin (x ∷ xs) = record { from = refl }

module _ {xs : List ℤ} {i : ℕ} (inv : Alike xs i) where
  module _ (h : i < length xs) where
    next : uniform xs ≡ equal_samples (get_or xs 0 (pos 0)) (get_or xs i (pos 0)) && uniform (get_or xs 0 (pos 0) ∷ drop (suc i) xs)
    next =
        inv.from ∙ ap (λ (r : List ℤ). uniform (get_or xs 0 (pos 0) ∷ r)) (drop-cons xs i (pos 0) h)
        ∙ uniform_cons (get_or xs 0 (pos 0)) (get_or xs i (pos 0)) (drop (suc i) xs)

    pub step : get_or xs i (pos 0) ≡ get_or xs 0 (pos 0) → Alike xs (i + 1)
    step e = record {
      from =
          next ∙ ap (λ y. equal_samples (get_or xs 0 (pos 0)) y && uniform (get_or xs 0 (pos 0) ∷ drop (suc i) xs)) e
          ∙ ap (λ b. b && uniform (get_or xs 0 (pos 0) ∷ drop (suc i) xs)) (same_refl (get_or xs 0 (pos 0)))
          ∙ ap (λ n. uniform (get_or xs 0 (pos 0) ∷ drop n xs)) (sym (add-one i));
    }

    pub one_differs : (get_or xs i (pos 0) ≡ get_or xs 0 (pos 0) → ⊥) → false ≡ uniform xs
    one_differs d =
        sym
        (next
        ∙ ap (λ b. b && uniform (get_or xs 0 (pos 0) ∷ drop (suc i) xs)) (same-other (get_or xs 0 (pos 0)) (get_or xs i (pos 0)) (λ e. d (sym e))))

  pub end : length xs ≤ i → true ≡ uniform xs
  unfolding uniform
  end h = sym (inv.from ∙ ap (λ (r : List ℤ). uniform (get_or xs 0 (pos 0) ∷ r)) (drop_of_length-le xs h))
