-- Stereo pairs: two channels joined in place, a pair of samples a turn, and the functions of a pair. Assumes nothing.
use Prim.Native.Nat.{ℕ, suc, ◌+◌, ◌*◌, ◌≤◌, ◌<◌}
use native.Mathlib.Numerals.{add-one}
use native.Mathlib.Omega.{arith}
use mathlib.Core.Path.{◌≡◌, refl, ap, ap₂, sym, ◌∙◌}
use mathlib.Core.List.{List, ◌∷◌, ◌++◌, append-nil}
use lib.IntN.{ℤ, pos, ◌+ℤ◌, ◌*ℤ◌}
use lib.ListN.{length, get_or, take, drop, set, length-set, length-drop, take-append-drop}
use lib.Signed.{shr_z}
use lib.Seq.{append_snoc, drop-cons, drop-length, take_all, take-suc-set, take-set-le, take-set-lt, drop-set-lt, drop-set-add, get_or-take, get_or-drop, get_or-set_other, set-get_or, length-take-le}
use mir.Syntax.{w32, w64}
use mir.Val.{SFits, to_z, of_z}
use mir.Facts.{to_z-of_z}
use Rattle.rfc9639.specs.declared.ChannelAssignment.TheVariants.{LeftSide, SideRight, MidSide}
use Rattle.rfc9639.specs.Integers.{low, wrapped, shift_down}
use Rattle.rfc9639.specs.Stereo.{doubled, left_of, right_of, left_of_mid, right_of_mid, pairwise, left_and_right}
use Rattle.rfc9639.proofs.Widths.{of_sfits, to_sfits, fits-mono, fits_mul, low_lt}
use Rattle.rfc9639.proofs.Lists.{pairwise-first, pairwise-second}
use Rattle.rfc9639.proofs.MachineIntegers.{shifted}
use Rattle.number.proofs.ProductSums.{sfits_of_abs, abs_of_fits, abs_mul, add_fits}

-- ---- pairs of which one sample is kept

abbrev pub first : ℤ → ℤ → ℤ
first x y = x

abbrev pub second : ℤ → ℤ → ℤ
second x y = y

-- ---- one side: the first i of ks are done, and the others are still to be made from xs and ys

unfoldable pub side : (ℤ → ℤ → ℤ) → List ℤ → List ℤ → List ℤ → ℕ → List ℤ
side f xs ys ks i = take i ks ++ pairwise f (drop i xs) (drop i ys)

module _ (f : ℤ → ℤ → ℤ) (xs ys ks : List ℤ) (i : ℕ) where
  side-step : (a b c : ℤ) → i < length xs → i < length ys → i < length ks → c ≡ f (get_or xs i (pos 0)) (get_or ys i (pos 0))
      → side f xs ys ks i ≡ side f (set xs i a) (set ys i b) (set ks i c) (i + 1)
  unfolding side pairwise
  side-step a b c hx hy hk e =
      ap₂ (λ (u v : List ℤ). take i ks ++ pairwise f u v) (drop-cons xs i (pos 0) hx) (drop-cons ys i (pos 0) hy)
      ∙ ap (λ (z : ℤ). take i ks ++ z ∷ pairwise f (drop (suc i) xs) (drop (suc i) ys)) (sym e)
      ∙ sym (append_snoc (take i ks) c (pairwise f (drop (suc i) xs) (drop (suc i) ys)))
      ∙ ap₂ (λ (u v : List ℤ). u ++ v) (sym (take-suc-set ks i c hk))
      (ap₂ (pairwise f) (sym (drop-set-lt (suc i) xs i a (omega arith))) (sym (drop-set-lt (suc i) ys i b (omega arith))))
      ∙ ap (λ n. take n (set ks i c) ++ pairwise f (drop n (set xs i a)) (drop n (set ys i b))) (sym (add-one i))

  side-end : length xs ≡ i → length ks ≤ i → side f xs ys ks i ≡ ks
  unfolding side pairwise
  side-end e h =
      ap₂ (λ (u v : List ℤ). u ++ pairwise f v (drop i ys)) (take_all i ks h) (ap (λ n. drop n xs) (sym e) ∙ drop-length xs) ∙ append-nil ks

-- ---- both sides: a slice of two channels held l₀ and now holds l, with i pairs joined

pub record PairsJoined (f g : ℤ → ℤ → ℤ) (n : ℕ) (l₀ l : List ℤ) (i : ℕ) : Type 0 where
  pub within : i ≤ n
  pub long : length l ≡ 2 * n
  pub left : pairwise f (take n l₀) (drop n l₀) ≡ side f (take n l) (drop n l) (take n l) i
  pub right : pairwise g (take n l₀) (drop n l₀) ≡ side g (take n l) (drop n l) (drop n l) i

module _ (n : ℕ) (l : List ℤ) (h : length l ≡ 2 * n) where
  pub begin : (f g : ℤ → ℤ → ℤ) → PairsJoined f g n l l 0
  unfolding side
  begin f g = record { within = omega arith; long = h; left = refl; right = refl }

  left-long : length (take n l) ≡ n
  left-long = length-take-le n l (omega arith)

  right-long : length (drop n l) ≡ n
  right-long = length-drop n l ∙ omega arith

  -- in the definition's words
  pub pairs-left-side : pairwise first (take n l) (drop n l) ++ pairwise right_of (take n l) (drop n l) ≡ left_and_right LeftSide n l
  unfolding left_and_right
  pairs-left-side = ap (λ (u : List ℤ). u ++ pairwise right_of (take n l) (drop n l)) (pairwise-first (take n l) (drop n l) (omega (arith, left-long, right-long)))

  pub pairs-side_right : pairwise left_of (take n l) (drop n l) ++ pairwise second (take n l) (drop n l) ≡ left_and_right SideRight n l
  unfolding left_and_right
  pairs-side_right = ap (λ (u : List ℤ). pairwise left_of (take n l) (drop n l) ++ u) (pairwise-second (take n l) (drop n l) (omega (arith, left-long, right-long)))

pub pairs-mid-side : (n : ℕ) (l : List ℤ) → pairwise left_of_mid (take n l) (drop n l) ++ pairwise right_of_mid (take n l) (drop n l) ≡ left_and_right MidSide n l
unfolding left_and_right
pairs-mid-side n l = refl

module _ {f g : ℤ → ℤ → ℤ} {n : ℕ} {l₀ l : List ℤ} {i : ℕ} (inv : PairsJoined f g n l₀ l i) where
  pub end : n ≤ i → l ≡ pairwise f (take n l₀) (drop n l₀) ++ pairwise g (take n l₀) (drop n l₀)
  end h =
      sym
      (ap₂ (λ (u v : List ℤ). u ++ v)
      (inv.left ∙ side-end f (take n l) (drop n l) (take n l) i (all (left-long n l inv.long)) (omega (arith, left-long n l inv.long)))
      (inv.right ∙ side-end g (take n l) (drop n l) (drop n l) i (all (left-long n l inv.long)) (omega (arith, right-long n l inv.long)))
      ∙ take-append-drop n l)
    where
      all : {m : ℕ} → m ≡ n → m ≡ i
      all e = omega (arith, inv.within)

  module _ (h : i < n) where
    abbrev x : ℤ
    x = get_or l i (pos 0)

    abbrev y : ℤ
    y = get_or l (n + i) (pos 0)

    step : (a b : ℤ) → a ≡ f x y → b ≡ g x y → PairsJoined f g n l₀ (set (set l i a) (n + i) b) (i + 1)
    step a b p q = record {
      within = omega arith;
      long = simp length-set inv.long;
      left = inv.left ∙ turn f (take n l) a p (left-long n l inv.long) ∙ ap₂ (λ (u v : List ℤ). side f u v u (i + 1)) (sym lefts) (sym rights);
      right = inv.right ∙ turn g (drop n l) b q (right-long n l inv.long) ∙ ap₂ (λ (u v : List ℤ). side g u v v (i + 1)) (sym lefts) (sym rights);
    }
      where
        m : List ℤ
        m = set (set l i a) (n + i) b

        lefts : take n m ≡ set (take n l) i a
        lefts = take-set-le n (set l i a) (n + i) b (omega arith) ∙ take-set-lt n l i a h

        rights : drop n m ≡ set (drop n l) i b
        rights = drop-set-add n (set l i a) i b ∙ ap (λ (k : List ℤ). set k i b) (drop-set-lt n l i a h)

        turn : (e : ℤ → ℤ → ℤ) (ks : List ℤ) (c : ℤ) → c ≡ e x y → length ks ≡ n
            → side e (take n l) (drop n l) ks i ≡ side e (set (take n l) i a) (set (drop n l) i b) (set ks i c) (i + 1)
        turn e ks c r k =
            side-step e (take n l) (drop n l) ks i a b c (omega (arith, left-long n l inv.long)) (omega (arith, right-long n l inv.long))
            (omega (arith, k)) (r ∙ ap₂ e (sym (get_or-take n l i (pos 0) h)) (sym (get_or-drop n l i (pos 0))))

-- ---- a turn of the loops, in machine integers: a signed value is passed on as its bits

abbrev pub bits32 : ℤ → ℤ
bits32 z = to_z w32 (of_z w32 z)

abbrev pub bits64 : ℤ → ℤ
bits64 z = to_z w64 (of_z w64 z)

module _ {f g : ℤ → ℤ → ℤ} {n : ℕ} {l₀ l : List ℤ} {i : ℕ} (inv : PairsJoined f g n l₀ l i) (h : i < n) (fx : SFits w32 (get_or l i (pos 0))) (fy : SFits w32 (get_or l (n + i) (pos 0))) where
  kept : (e : ℤ → ℤ → ℤ) (z : ℤ) → SFits w32 z → z ≡ e (bits32 (get_or l i (pos 0))) (bits32 (get_or l (n + i) (pos 0))) → bits32 z ≡ e (get_or l i (pos 0)) (get_or l (n + i) (pos 0))
  kept e z fz p = to_z-of_z fz ∙ p ∙ ap₂ e (to_z-of_z fx) (to_z-of_z fy)

  pub step_both : (a b : ℤ) → SFits w32 a → a ≡ f (bits32 (get_or l i (pos 0))) (bits32 (get_or l (n + i) (pos 0)))
      → SFits w32 b → b ≡ g (bits32 (get_or l i (pos 0))) (bits32 (get_or l (n + i) (pos 0))) → PairsJoined f g n l₀ (set (set l i (bits32 a)) (n + i) (bits32 b)) (i + 1)
  step_both a b fa p fb q = step inv h (bits32 a) (bits32 b) (kept f a fa p) (kept g b fb q)

-- a turn that keeps the left sample, or the right
module _ {e : ℤ → ℤ → ℤ} {n : ℕ} {l₀ l : List ℤ} {i : ℕ} where
  pub step_right : PairsJoined first e n l₀ l i → i < n → SFits w32 (get_or l i (pos 0)) → SFits w32 (get_or l (n + i) (pos 0))
      → (b : ℤ) → SFits w32 b → b ≡ e (bits32 (get_or l i (pos 0))) (bits32 (get_or l (n + i) (pos 0))) → PairsJoined first e n l₀ (set l (n + i) (bits32 b)) (i + 1)
  step_right inv h fx fy b fb q = rw set-get_or at (step inv h (get_or l i (pos 0)) (bits32 b) refl (kept inv h fx fy e b fb q))

  pub step_left : PairsJoined e second n l₀ l i → i < n → SFits w32 (get_or l i (pos 0)) → SFits w32 (get_or l (n + i) (pos 0))
      → (a : ℤ) → SFits w32 a → a ≡ e (bits32 (get_or l i (pos 0))) (bits32 (get_or l (n + i) (pos 0))) → PairsJoined e second n l₀ (set l i (bits32 a)) (i + 1)
  step_left inv h fx fy a fa p =
      rw set-get_or at
      (step inv h (bits32 a) (get_or (set l i (bits32 a)) (n + i) (pos 0)) (kept inv h fx fy e a fa p) (get_or-set_other l i (n + i) (bits32 a) (pos 0) (λ d. omega arith)))

-- ---- the functions of a pair

pub twice-fits : {z : ℤ} → SFits w32 z → SFits w64 (z *ℤ pos 2)
twice-fits f = to_sfits (fits-mono {w = 33} {w' = 64} (omega arith) (fits_mul {w = 32} (omega arith) (of_sfits f) 1))

pub bit-fits : (z : ℤ) → SFits w64 (pos (low 1 z))
bit-fits z = sfits_of_abs (pos (low 1 z)) (omega (arith, low_lt 1 z))

pub doubled_fits : {mid : ℤ} → SFits w32 mid → (side : ℤ) → SFits w64 (mid *ℤ pos 2 +ℤ pos (low 1 side))
doubled_fits {mid} f side =
    add_fits (mid *ℤ pos 2) (pos (low 1 side)) (omega (arith, abs_mul mid (pos 2), abs_of_fits (of_sfits f))) (omega (arith, low_lt 1 side))

-- half of a sum of 32 bits
pub half_of : (op : ℤ → ℤ → ℤ) {mid side twice sum : ℤ} → SFits w32 mid → SFits w32 side → SFits w32 twice → SFits w32 sum → twice ≡ doubled (bits32 mid) (bits32 side)
    → sum ≡ wrapped 32 (op (bits32 twice) (bits32 side)) → bits32 (shr_z (bits32 sum) 2) ≡ shift_down 1 (wrapped 32 (op (doubled mid side) side))
half_of op fm fs ft fu et eu =
    shifted fu 1
    ∙ ap (shift_down 1) (eu ∙ ap (wrapped 32) (ap₂ op (to_z-of_z ft ∙ et ∙ ap₂ doubled (to_z-of_z fm) (to_z-of_z fs)) (to_z-of_z fs)))
