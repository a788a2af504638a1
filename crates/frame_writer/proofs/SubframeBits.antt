-- The bits of the subframes, added up one by one. Assumes nothing.
use Prim.Native.Nat.{ℕ, ◌+◌, ◌*◌, ◌^◌, ◌≤◌}
use native.Mathlib.Nat.{add-mul, mul-le-mul}
use native.Mathlib.Omega.{arith}
use mathlib.Core.Path.{◌≡◌, refl, ap, ◌∙◌}
use mathlib.Core.List.{List, [], ◌∷◌, ◌++◌, map, append-nil}
use lib.IntN.{ℤ}
use lib.ListN.{length, length-append}
use Rattle.reading.specs.NumbersAsBits.{row}
use Rattle.reading.proofs.NumbersAsBits.{row_append}
use Rattle.rfc9639.specs.declared.ChannelAssignment.{ChannelAssignment}
use Rattle.rfc9639.specs.declared.FrameSetting.{FrameSetting}
use Rattle.rfc9639.specs.declared.Lane.{Lane}
use Rattle.rfc9639.specs.HeaderCodes.{assignment, channel_count}
use Rattle.rfc9639.specs.SubframeCoding.{numbers_from, cost, subframe_bits}
use Rattle.rfc9639.specs.Write.{lane_of, lanes, lane_width, lane_bits, subframes_bits}
use Rattle.rfc9639.proofs.Lists.{width_within, map-numbers_from-last}
use Rattle.rfc9639.proofs.LengthBound.{lane_at_most}
use Rattle.subframe_choice.specs.declared.Choice.{Choice}
use Rattle.subframe_choice.specs.Choices.{choice_of}
use Rattle.frame_writer.specs.Private.{lane_choice}

module _ (b n : ℕ) (xs : List ℤ) (a : ChannelAssignment) where
  -- the bits of the subframes before subframe c
  abbrev so_far : ℕ → List ℕ
  so_far c = row (lane_bits b n xs) (map (lane_of a) (numbers_from 0 c))

  pub record Counted (bits c : ℕ) : Type 0 where
    pub same : bits ≡ length (so_far c)
    pub small : bits ≤ c * 2 ^ 22

  pub counted_none : Counted 0 0
  unfolding numbers_from row
  counted_none = record { same = refl; small = omega arith }

  choice_bits : (lane : Lane) → (lane_choice b n xs lane).bits ≡ length (lane_bits b n xs lane)
  unfolding lane_choice choice_of cost lane_bits subframe_bits
  choice_bits lane = refl

  pub choice_small : b ≤ 24 → n ≤ 65535 → {x : Choice} → (lane : Lane) → x ≡ lane_choice b n xs lane → x.bits ≤ 2 ^ 22
  choice_small h g {x} lane e =
      let m : n * lane_width b lane ≤ 65535 * 25 = mul-le-mul g (let w : lane_width b lane ≤ 25 = omega (arith, width_within b lane) in w) in
      let k : x.bits ≡ length (lane_bits b n xs lane) = ap (λ (y : Choice). y.bits) e ∙ choice_bits lane in
      omega (arith, k, lane_at_most b n xs lane)

  so_far-next : (c : ℕ) → length (so_far (c + 1)) ≡ length (so_far c) + length (lane_bits b n xs (lane_of a c))
  unfolding row
  so_far-next c =
      let l = lane_bits b n xs (lane_of a c) in
      ap (λ (k : List Lane). length (row (lane_bits b n xs) k)) (map-numbers_from-last (lane_of a) c)
      ∙ ap length (row_append (lane_bits b n xs) (map (lane_of a) (numbers_from 0 c)) (lane_of a c ∷ [])) ∙ length-append (so_far c) (l ++ [])
      ∙ ap (λ (k : List ℕ). length (so_far c) + length k) (append-nil l)

  module _ {bits c : ℕ} (k : Counted bits c) where
    pub counted-more : b ≤ 24 → n ≤ 65535 → {x : Choice} → x ≡ lane_choice b n xs (lane_of a c) → Counted (bits + x.bits) (c + 1)
    counted-more h g {x} e =
        let m = choice_small h g (lane_of a c) e in
        let f : x.bits ≡ length (lane_bits b n xs (lane_of a c)) = ap (λ (y : Choice). y.bits) e ∙ choice_bits (lane_of a c) in
        record { same = omega (arith, k.same, f, so_far-next c); small = omega (arith, k.small, add-mul c 1 (2 ^ 22)) }

-- the bits of all subframes
pub counted-all : (set : FrameSetting) (xs : List ℤ) {bits count c : ℕ} → Counted set.bits set.size xs (assignment set.channels) bits c → c ≡ count
    → count ≡ channel_count (assignment set.channels) → bits ≡ length (subframes_bits set xs)
unfolding subframes_bits lanes
counted-all set xs k e f = k.same ∙ ap (λ n. length (row (lane_bits set.bits set.size xs) (map (lane_of (assignment set.channels)) (numbers_from 0 n)))) (e ∙ f)
