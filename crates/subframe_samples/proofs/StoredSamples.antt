-- What each lane stores: how many samples, which one at an index, and how large. Assumes nothing.
use Prim.Native.Nat.{ℕ, zero, suc, ◌+◌, ◌-◌, ◌*◌, ◌^◌, ◌≤◌, ◌<◌, min}
use native.Mathlib.Omega.{arith}
use mathlib.Core.Path.{◌≡◌, refl, ap, ap₂, sym, ◌∙◌}
use mathlib.Core.List.{List, [], ◌∷◌}
use lib.IntN.{ℤ, pos, nat_abs, ◌+ℤ◌}
use lib.ListN.{length, get_or, drop}
use lib.Seq.{get_or-take, get_or-drop}
use mir.Syntax.{w32, w64}
use mir.Val.{SFits, to_z, of_z}
use mir.Facts.{to_z-of_z}
use Rattle.rfc9639.specs.declared.Lane.{Lane}
use Rattle.rfc9639.specs.declared.Lane.TheVariants.{Channel, Mid, Side}
use Rattle.rfc9639.specs.Stereo.{pairwise}
use Rattle.rfc9639.specs.Write.{channel_samples, stored, mid_of, side_of}
use Rattle.rfc9639.proofs.Lengths.{length-pairwise, length-channel_samples as channel-long}
use Rattle.rfc9639.proofs.Widths.{of_sfits}
use Rattle.rfc9639.proofs.MachineIntegers.{widened}
use Rattle.number.proofs.ProductSums.{abs_of_fits, abs_shift_down}
use Rattle.number.proofs.ExactSums.{sum_fits_33, difference_fits_33}

-- ---- pairs

pub pairwise_at : (f : ℤ → ℤ → ℤ) (xs ys : List ℤ) (i : ℕ) → i < length (pairwise f xs ys)
    → get_or (pairwise f xs ys) i (pos 0) ≡ f (get_or xs i (pos 0)) (get_or ys i (pos 0))
unfolding pairwise
pairwise_at f [] ys i h = absurd (omega arith)
pairwise_at f (x ∷ xs) [] i h = absurd (omega arith)
pairwise_at f (x ∷ xs) (y ∷ ys) zero h = refl
pairwise_at f (x ∷ xs) (y ∷ ys) (suc i) h = pairwise_at f xs ys i (omega arith)

-- ---- one channel

module _ (n : ℕ) (xs : List ℤ) (c : ℕ) where
  pub channel_get_d : (i : ℕ) → i < n → get_or (channel_samples n xs c) i (pos 0) ≡ get_or xs (c * n + i) (pos 0)
  unfolding channel_samples
  channel_get_d i h = get_or-take n (drop (c * n) xs) i (pos 0) h ∙ get_or-drop (c * n) xs i (pos 0)

-- ---- what a lane stores: a channel, or pairs of the first two

pub record Single (n : ℕ) (xs : List ℤ) (c : ℕ) (l : List ℤ) : Type 0 where
  pub is : l ≡ channel_samples n xs c

pub record Paired (f : ℤ → ℤ → ℤ) (n : ℕ) (xs l : List ℤ) : Type 0 where
  pub is : l ≡ pairwise f (channel_samples n xs 0) (channel_samples n xs 1)

module _ (n : ℕ) (xs : List ℤ) {lane : Lane} where
  pub stored-channel : {c : ℕ} → lane ≡ Channel c → Single n xs c (stored n xs lane)
  unfolding stored
  stored-channel e = record { is = rw e }

  pub stored-mid : lane ≡ Mid → Paired mid_of n xs (stored n xs lane)
  unfolding stored
  stored-mid e = record { is = rw e }

  pub stored-side : lane ≡ Side → Paired side_of n xs (stored n xs lane)
  unfolding stored
  stored-side e = record { is = rw e }

-- ---- how large a sample is

pub side_abs : (a b : ℤ) → SFits w32 a → SFits w32 b → nat_abs (side_of a b) ≤ 2 ^ 32
unfolding side_of
side_abs a b f g = abs_of_fits (difference_fits_33 f g)

pub mid_abs : (a b : ℤ) → SFits w32 a → SFits w32 b → nat_abs (mid_of a b) ≤ 2 ^ 32
unfolding mid_of
mid_abs a b f g = omega (arith, abs_shift_down 1 (a +ℤ b), abs_of_fits (sum_fits_33 f g))

-- ---- a sample of a lane, as the code has it (a signed value goes by its bits)

abbrev bits32 : ℤ → ℤ
bits32 z = to_z w32 (of_z w32 z)

abbrev SampleIs : List ℤ → ℕ → ℤ → Type 0
SampleIs l i r = (to_z w64 (of_z w64 r) ≡ get_or l i (pos 0)) × (nat_abs (to_z w64 (of_z w64 r)) ≤ 2 ^ 32)

module _ {n : ℕ} {xs : List ℤ} {c : ℕ} {l : List ℤ} (e : Single n xs c l) where
  pub length-channel : length l ≡ min n (length xs - c * n)
  length-channel = ap length e.is ∙ channel-long n xs c

  module _ (i : ℕ) (h : i < length l) where
    pub channel-inside : c * n + i < length xs
    channel-inside = omega (arith, length-channel)

    pub channel-sample : SFits w32 (get_or xs (c * n + i) (pos 0)) → SampleIs l i (bits32 (get_or xs (c * n + i) (pos 0)))
    channel-sample f =
        rw (widened f)
        (sym (ap (λ (t : List ℤ). get_or t i (pos 0)) e.is ∙ channel_get_d n xs c i (omega (arith, length-channel))), omega (arith, abs_of_fits (of_sfits f)))

-- there are as many pairs as the second channel has samples
module _ {f : ℤ → ℤ → ℤ} {n : ℕ} {xs l : List ℤ} (e : Paired f n xs l) where
  pub length_both : length l ≡ min n (length xs - 1 * n)
  length_both =
      ap length e.is ∙ length-pairwise f (channel_samples n xs 0) (channel_samples n xs 1) ∙ ap₂ min (channel-long n xs 0) (channel-long n xs 1)
      ∙ (let k : min (min n (length xs - 0 * n)) (min n (length xs - 1 * n)) ≡ min n (length xs - 1 * n) = omega arith in k)

  module _ (i : ℕ) (h : i < length l) where
    pub both-inside : n + i < length xs
    both-inside = omega (arith, length_both)

    both_at : get_or l i (pos 0) ≡ f (get_or xs i (pos 0)) (get_or xs (n + i) (pos 0))
    both_at =
        ap (λ (t : List ℤ). get_or t i (pos 0)) e.is ∙ pairwise_at f (channel_samples n xs 0) (channel_samples n xs 1) i (rw e.is at h)
        ∙ ap₂ f (at 0 ∙ ap (λ k. get_or xs k (pos 0)) (let g : 0 * n + i ≡ i = omega arith in g))
        (at 1 ∙ ap (λ k. get_or xs k (pos 0)) (let g : 1 * n + i ≡ n + i = omega arith in g))
      where
        at : (c : ℕ) → get_or (channel_samples n xs c) i (pos 0) ≡ get_or xs (c * n + i) (pos 0)
        at c = channel_get_d n xs c i (omega (arith, length_both))

    pub both-sample : ((a b : ℤ) → SFits w32 a → SFits w32 b → nat_abs (f a b) ≤ 2 ^ 32)
        → {a b : ℤ} → SFits w32 a → SFits w32 b → (a ≡ get_or xs i (pos 0)) × (b ≡ get_or xs (n + i) (pos 0))
        → {r : ℤ} → SFits w64 r → r ≡ f (bits32 a) (bits32 b) → SampleIs l i r
    both-sample small fa fb e g d =
        rw (to_z-of_z g, d, to_z-of_z fa, to_z-of_z fb) (ap₂ f e.0 e.1 ∙ sym both_at, small _ _ fa fb)
