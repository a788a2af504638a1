-- The subframes, one by one: the lane that each stores, its choice, and the bits written. Assumes nothing.
use Prim.Native.Nat.{ℕ, ◌+◌, ◌≤◌, ◌<◌}
use native.Mathlib.Omega.{arith}
use mathlib.Core.Path.{◌≡◌, refl, ap, ap₂, sym, ◌∙◌}
use mathlib.Core.List.{List, map}
use lib.IntN.{ℤ}
use lib.ListN.{get_or, take}
use lib.Seq.{get_or-take}
use Rattle.rfc9639.specs.declared.Candidate.{Candidate}
use Rattle.rfc9639.specs.declared.ChannelAssignment.{ChannelAssignment}
use Rattle.rfc9639.specs.declared.Lane.{Lane}
use Rattle.rfc9639.specs.declared.Lane.TheVariants.{Mid}
use Rattle.rfc9639.specs.HeaderCodes.{channel_count}
use Rattle.rfc9639.specs.SubframeCoding.{subframe_bits}
use Rattle.rfc9639.specs.Write.{lane_of, lanes, lane_width, stored, lane_bits}
use Rattle.rfc9639.proofs.Lists.{get_d_map, length-lanes, lane_at, width_within}
use Rattle.rfc9639.proofs.FrameBits.{bits-lane}
use Rattle.subframe_choice.specs.declared.Choice.{Choice}
use Rattle.subframe_choice.specs.Choices.{choice_of}
use Rattle.bit_writer.specs.declared.BitWriter.{BitWriter}
use Rattle.bit_writer.specs.PenWrites.{Appends}
use Rattle.subframe_writer.specs.Ways.{written_as}
use Rattle.subframe_writer.proofs.SubframePieces.{written_some}
use Rattle.bit_writer.proofs.ConsecutiveWrites.{appends_as}
use Rattle.bit_writer.proofs.RowLoops.{Unwritten, step}
use Rattle.frame_writer.specs.Private.{coded_lane, lane_choice}

module _ (a : ChannelAssignment) where
  -- the choice that is planned for subframe c
  pub planned_at : (b n : ℕ) (xs : List ℤ) (choices : List Choice) → take (channel_count a) choices ≡ map (lane_choice b n xs) (lanes a)
      → (c : ℕ) (d : Choice) → c < channel_count a → get_or choices c d ≡ lane_choice b n xs (lane_of a c)
  planned_at b n xs choices e c d h =
      sym (get_or-take (channel_count a) choices c d h) ∙ ap (λ l. get_or l c d) e
      ∙ get_d_map (lane_choice b n xs) (lanes a) c Mid d (omega (arith, length-lanes a)) ∙ ap (lane_choice b n xs) (lane_at a c Mid h)

-- ---- one subframe

pub lane_written : (c : Candidate) (b n : ℕ) (xs : List ℤ) (lane : Lane) {w : ℕ} {ys : List ℤ} → b ≤ 24 → w ≡ lane_width b lane → ys ≡ stored n xs lane
    → written_as c w ys ≡ coded_lane c b n xs lane
lane_written c b n xs lane h e f =
    ap₂ (written_as c) e f ∙ written_some c (lane_width b lane) (stored n xs lane) (let k = width_within b lane in omega arith)

module _ (a : ChannelAssignment) (b n : ℕ) (xs : List ℤ) where
  coded_lane_choice : (lane : Lane) → coded_lane (lane_choice b n xs lane).candidate b n xs lane ≡ lane_bits b n xs lane
  unfolding lane_choice choice_of lane_bits subframe_bits
  coded_lane_choice lane = refl

  -- the next subframe, as planned
  pub lane-next : {w₀ : BitWriter} {c : ℕ} {w : BitWriter} → Unwritten (lane_bits b n xs) (lanes a) w₀ c w → c < channel_count a
      → {choice : Choice} → choice ≡ lane_choice b n xs (lane_of a c) → {after : BitWriter}
      → Appends (coded_lane choice.candidate b n xs (lane_of a c)) w after → Unwritten (lane_bits b n xs) (lanes a) w₀ (c + 1) after
  lane-next {w₀} {c} u h {choice} e f =
      step u Mid {y = lane_of a c} (omega (arith, length-lanes a)) (sym (lane_at a c Mid h)) (bits-lane b n xs (lane_of a c))
      (appends_as (ap (λ (k : Choice). coded_lane k.candidate b n xs (lane_of a c)) e ∙ coded_lane_choice (lane_of a c)) f)
