-- Lanes: what the subframes store fits and gives the channels back (RFC 9639 section 4.2). Assumes nothing.
use Prim.Native.Nat.{ℕ, zero, suc, ◌+◌, ◌*◌, ◌≤◌, ◌<◌}
use native.Mathlib.Nat.{mul-le-mul_right, suc-mul, zero-mul}
use native.Mathlib.Omega.{arith}
use mathlib.Core.Path.{◌≡◌, ap, sym, ◌∙◌}
use mathlib.Core.List.{List, [], ◌∷◌, ◌++◌, map, append-nil, flat_map}
use lib.Dec.{eqb}
use lib.IntN.{ℤ}
use lib.ListN.{length, take, drop, take-append-drop, drop_of_length-le}
use lib.Seq.{drop-drop}
use Rattle.reading.proofs.Postconditions.{Every, every_take, every_drop, every_map}
use Rattle.rfc9639.specs.declared.ChannelAssignment.{ChannelAssignment}
use Rattle.rfc9639.specs.declared.ChannelAssignment.TheVariants.{Independent, LeftSide, SideRight, MidSide}
use Rattle.rfc9639.specs.declared.Lane.{Lane}
use Rattle.rfc9639.specs.declared.Lane.TheVariants.{Channel, Mid, Side}
use Rattle.rfc9639.specs.HeaderCodes.{channel_count}
use Rattle.rfc9639.specs.Stereo.{left_and_right}
use Rattle.rfc9639.specs.SubframeCoding.{numbers_from}
use Rattle.rfc9639.specs.Write.{lane_of, lanes, lane_width, mid_of, side_of, channel_samples, stored}
use Rattle.rfc9639.proofs.Widths.{Fits}
use Rattle.rfc9639.proofs.Lengths.{length-channel_samples}
use Rattle.rfc9639.proofs.Lists.{every-numbers_from}
use Rattle.reading.proofs.TestChains.{by_test}
use Rattle.readback.proofs.Stereo.{side-fits, mid-fits}
use Rattle.readback.proofs.ChannelPairs.{Pair, length_pairs, every-pair, left_and_right-left-side, left_and_right-side_right, left_and_right-mid-side}

-- the lane has n samples that fit its width
pub record Held (b n : ℕ) (xs : List ℤ) (lane : Lane) : Type 0 where
  pub count : length (stored n xs lane) ≡ n
  pub fits : Every (Fits (lane_width b lane)) (stored n xs lane)

module _ (n : ℕ) (xs : List ℤ) where
  -- independent channels, from channel a on
  flat_from : (k a m : ℕ) → length xs ≡ (a + m) * n → flat_map (stored n xs) (map (lane_of (Independent k)) (numbers_from a m)) ≡ drop (a * n) xs
  unfolding flat_map stored lane_of numbers_from channel_samples
  flat_from k a zero e = sym (drop_of_length-le xs {i = a * n} (omega arith))
  flat_from k a (suc m) e =
      ap (λ ys. take n (drop (a * n) xs) ++ ys)
      (flat_from k (suc a) m (e ∙ ap (λ i. i * n) (let f : a + suc m ≡ suc a + m = omega arith in f))
      ∙ ap (λ i. drop i xs) (suc-mul a n) ∙ sym (drop-drop n (a * n) xs))
      ∙ take-append-drop n (drop (a * n) xs)

  flat_independent : (k m : ℕ) → length xs ≡ m * n → flat_map (stored n xs) (map (lane_of (Independent k)) (numbers_from 0 m)) ≡ xs
  flat_independent k m e = flat_from k 0 m (omega arith) ∙ ap (λ i. drop i xs) (zero-mul n)

  left_and_right_lem : length xs ≡ 2 * n → channel_samples n xs 0 ++ channel_samples n xs 1 ≡ xs
  unfolding flat_map stored lane_of numbers_from
  left_and_right_lem e = ap (λ ys. channel_samples n xs 0 ++ ys) (sym (append-nil (channel_samples n xs 1))) ∙ flat_independent 2 2 e

  module _ {b : ℕ} (h : 1 ≤ b) (most : b ≤ 24) (fit : Every (Fits b) xs) where
    channel_samples-fits : (c : ℕ) → Every (Fits b) (channel_samples n xs c)
    unfolding channel_samples
    channel_samples-fits c = every_take (Fits b) n (drop (c * n) xs) (every_drop (Fits b) (c * n) xs fit)

    held-channel : (c : ℕ) → suc c * n ≤ length xs → Held b n xs (Channel c)
    unfolding stored lane_width
    held-channel c l = record { count = length-channel_samples n xs c ∙ omega arith; fits = channel_samples-fits c }

    pair : length xs ≡ 2 * n → Pair b n (channel_samples n xs 0) (channel_samples n xs 1)
    pair e = record {
      fits-left = channel_samples-fits 0;
      fits-right = channel_samples-fits 1;
      length-left = length-channel_samples n xs 0 ∙ omega arith;
      length-right = length-channel_samples n xs 1 ∙ omega arith;
    }

    held-mid : length xs ≡ 2 * n → Held b n xs Mid
    unfolding stored lane_width
    held-mid e = record {
      count = length_pairs h most (pair e) mid_of;
      fits = every-pair h most (pair e) (Fits b) mid_of (λ x y f g. mid-fits h most f g);
    }

    held-side : length xs ≡ 2 * n → Held b n xs Side
    unfolding stored lane_width
    held-side e = record {
      count = length_pairs h most (pair e) side_of;
      fits = every-pair h most (pair e) (Fits (b + 1)) side_of (λ x y f g. side-fits h most f g);
    }

    held : (a : ChannelAssignment) (c : ℕ) → length xs ≡ channel_count a * n → c < channel_count a → Held b n xs (lane_of a c)
    unfolding lane_of channel_count
    held (Independent k) c e l = held-channel c (omega (arith, mul-le-mul_right n l))
    held LeftSide c e l = by_test (Held b n xs) (eqb c 0) (Channel 0) Side (λ _. held-channel 0 (omega arith)) (λ _. held-side e)
    held SideRight c e l = by_test (Held b n xs) (eqb c 0) Side (Channel 1) (λ _. held-side e) (λ _. held-channel 1 (omega arith))
    held MidSide c e l = by_test (Held b n xs) (eqb c 0) Mid Side (λ _. held-mid e) (λ _. held-side e)

    -- two lanes give the two channels back
    left_and_right-two : (a : ChannelAssignment) (u v : Lane) → length xs ≡ 2 * n → left_and_right a n (stored n xs u ++ stored n xs v) ≡ channel_samples n xs 0 ++ channel_samples n xs 1
        → left_and_right a n (flat_map (stored n xs) (u ∷ v ∷ [])) ≡ xs
    unfolding flat_map
    left_and_right-two a u v e j = ap (λ ys. left_and_right a n (stored n xs u ++ ys)) (append-nil (stored n xs v)) ∙ j ∙ left_and_right_lem e

    module _ (a : ChannelAssignment) (e : length xs ≡ channel_count a * n) where
      pub lanes-held : Every (Held b n xs) (lanes a)
      unfolding lanes
      lanes-held =
          every_map (Held b n xs) (lane_of a) (numbers_from 0 (channel_count a))
          (every-numbers_from (λ c. Held b n xs (lane_of a c)) 0 (channel_count a) (λ c l. held a c e (omega arith)))

      pub left_and_right-lanes : left_and_right a n (flat_map (stored n xs) (lanes a)) ≡ xs
      unfolding left_and_right lanes lane_of numbers_from channel_count stored
      left_and_right-lanes = go a e
        where
          go : (a : ChannelAssignment) → length xs ≡ channel_count a * n → left_and_right a n (flat_map (stored n xs) (lanes a)) ≡ xs
          go (Independent k) e = flat_independent k k e
          go LeftSide e = left_and_right-two LeftSide (Channel 0) Side e (left_and_right-left-side h most (pair e))
          go SideRight e = left_and_right-two SideRight Side (Channel 1) e (left_and_right-side_right h most (pair e))
          go MidSide e = left_and_right-two MidSide Mid Side e (left_and_right-mid-side h most (pair e))
