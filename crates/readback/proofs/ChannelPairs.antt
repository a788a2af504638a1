-- Pairs of channels: left and right come back from the two channels that a stereo frame stores. Assumes nothing.
use Prim.Native.Nat.{ℕ, ◌≤◌}
use native.Mathlib.Omega.{arith}
use mathlib.Core.Path.{◌≡◌, refl, ap, ap₂, sym, ◌∙◌}
use mathlib.Core.List.{List, [], ◌∷◌, ◌++◌}
use lib.IntN.{ℤ}
use lib.ListN.{length}
use lib.Seq.{take_at, drop_at}
use Rattle.reading.proofs.Postconditions.{Every}
use Rattle.rfc9639.specs.declared.ChannelAssignment.TheVariants.{LeftSide, SideRight, MidSide}
use Rattle.rfc9639.specs.Stereo.{right_of, left_of, left_of_mid, right_of_mid, pairwise, left_and_right}
use Rattle.rfc9639.specs.Write.{mid_of, side_of}
use Rattle.rfc9639.proofs.Widths.{Fits}
use Rattle.rfc9639.proofs.Lengths.{length-pairwise}
use Rattle.rfc9639.proofs.Lists.{pairwise-first, pairwise-second}
use Rattle.readback.proofs.Stereo.{right-back, left_back, left_of_mid-back, right_of_mid-back}

module _ {P : ℤ → Type 0} where
  every-pairwise : (Q : ℤ → Type 0) (f : ℤ → ℤ → ℤ) → ((x y : ℤ) → P x → P y → Q (f x y)) → (xs ys : List ℤ) → Every P xs → Every P ys → Every Q (pairwise f xs ys)
  unfolding pairwise
  every-pairwise Q f q [] ys h g = tt
  every-pairwise Q f q (x ∷ xs) [] h g = tt
  every-pairwise Q f q (x ∷ xs) (y ∷ ys) h g = (q x y h.0 g.0, every-pairwise Q f q xs ys h.1 g.1)

  -- where k of f and g equals e for every pair, so it does for two lists
  pairwise-pairwise : (k f g e : ℤ → ℤ → ℤ) → ((x y : ℤ) → P x → P y → k (f x y) (g x y) ≡ e x y) → (xs ys : List ℤ) → Every P xs → Every P ys
      → pairwise k (pairwise f xs ys) (pairwise g xs ys) ≡ pairwise e xs ys
  unfolding pairwise
  pairwise-pairwise k f g e q [] ys h i = refl
  pairwise-pairwise k f g e q (x ∷ xs) [] h i = refl
  pairwise-pairwise k f g e q (x ∷ xs) (y ∷ ys) h i = ap₂ (λ z zs. z ∷ zs) (q x y h.0 i.0) (pairwise-pairwise k f g e q xs ys h.1 i.1)

-- two channels of n samples of w bits
pub record Pair (w n : ℕ) (ls rs : List ℤ) : Type 0 where
  pub fits-left : Every (Fits w) ls
  pub fits-right : Every (Fits w) rs
  pub length-left : length ls ≡ n
  pub length-right : length rs ≡ n

module _ {w n : ℕ} {ls rs : List ℤ} (h : 1 ≤ w) (most : w ≤ 24) (p : Pair w n ls rs) where
  pub length_pairs : (f : ℤ → ℤ → ℤ) → length (pairwise f ls rs) ≡ n
  length_pairs f = length-pairwise f ls rs ∙ omega arith

  first : pairwise (λ x y. x) ls rs ≡ ls
  first = pairwise-first ls rs (omega arith)

  second : pairwise (λ x y. y) ls rs ≡ rs
  second = pairwise-second ls rs (omega arith)

  pub every-pair : (Q : ℤ → Type 0) (f : ℤ → ℤ → ℤ) → ((x y : ℤ) → Fits w x → Fits w y → Q (f x y)) → Every Q (pairwise f ls rs)
  every-pair Q f q = every-pairwise Q f q ls rs p.fits-left p.fits-right

  back : (k f g e : ℤ → ℤ → ℤ) → ((x y : ℤ) → Fits w x → Fits w y → k (f x y) (g x y) ≡ e x y) → pairwise k (pairwise f ls rs) (pairwise g ls rs) ≡ pairwise e ls rs
  back k f g e q = pairwise-pairwise k f g e q ls rs p.fits-left p.fits-right

  pub left_and_right-left-side : left_and_right LeftSide n (ls ++ pairwise side_of ls rs) ≡ ls ++ rs
  unfolding left_and_right
  left_and_right-left-side =
      let side = pairwise side_of ls rs in
      rw (take_at ls side n p.length-left, drop_at ls side n p.length-left)
      (ap (λ ys. ls ++ ys)
      (ap (λ ys. pairwise right_of ys side) (sym first) ∙ back right_of (λ x y. x) side_of (λ x y. y) (λ x y f g. right-back h most f g) ∙ second))

  pub left_and_right-side_right : left_and_right SideRight n (pairwise side_of ls rs ++ rs) ≡ ls ++ rs
  unfolding left_and_right
  left_and_right-side_right =
      let side = pairwise side_of ls rs in
      rw (take_at side rs n (length_pairs side_of), drop_at side rs n (length_pairs side_of))
      (ap (λ ys. ys ++ rs)
      (ap (pairwise left_of side) (sym second) ∙ back left_of side_of (λ x y. y) (λ x y. x) (λ x y f g. left_back h most f g) ∙ first))

  pub left_and_right-mid-side : left_and_right MidSide n (pairwise mid_of ls rs ++ pairwise side_of ls rs) ≡ ls ++ rs
  unfolding left_and_right
  left_and_right-mid-side =
      let mid = pairwise mid_of ls rs in
      let side = pairwise side_of ls rs in
      rw (take_at mid side n (length_pairs mid_of), drop_at mid side n (length_pairs mid_of))
      (ap₂ (λ ys zs. ys ++ zs)
      (back left_of_mid mid_of side_of (λ x y. x) (λ x y f g. left_of_mid-back h most f g) ∙ first)
      (back right_of_mid mid_of side_of (λ x y. y) (λ x y f g. right_of_mid-back h most f g) ∙ second))
