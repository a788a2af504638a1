-- The stream's record: what a frame takes from it, and where it is checked. Each input is one on which another reading
-- would give another answer. Assumes nothing.
use Prim.Native.Nat.{ℕ}
use mathlib.Core.Path.{◌≡◌, refl}
use mathlib.Core.List.{List, [], ◌++◌}
use lib.IntN.{pos}
use lib.ListN.{length, replicate}
use Rattle.std.specs.Prelude.{Option, Some, None}
use Rattle.rfc9639.specs.declared.Settings.{Settings}
use Rattle.rfc9639.specs.Read.{refusal, read}
use Rattle.rfc9639.proofs.Evaluation.{hex, record_of, record_and_blocks, unknown, computed}

-- refused with number n, and the buffer of sevens is untouched
abbrev refuses : Settings → List ℕ → ℕ → ℕ → Type 0
refuses set s room n = read set s (replicate room (pos 7)) ≡ record { report = refusal n; buffer = replicate room (pos 7) }

-- a frame of four samples, all 5, that is accepted with these bits and this rate
abbrev accepts : Settings → List ℕ → ℕ → Option ℕ → Type 0
accepts set s bits rate =
    read set s (replicate 5 (pos 7))
    ≡ record {
      report = record { number = 0; consumed = length s; first = None; rate = rate; channels = 1; bits = bits; size = 4 };
      buffer = replicate 4 (pos 5) ++ replicate 1 (pos 7);
    }

pub record Given : Type 0 where
  -- bits and rate that the header leaves to the stream
  pub left : accepts (record_of 8 44100) (hex 11 0xfff860000003e300_05f7bc) 8 (Some 44100)
  pub left_13 : accepts (record_of 13 0) (hex 12 0xfff860000003e300_002820c1) 13 (Some 0)
  pub left_without_record : refuses unknown (hex 12 0xfff860000003e300_002820c1) 5 8
  pub left_24_cut : refuses (record_of 24 1) (hex 7 0xfff860000003e3) 5 2
  pub left_25 : refuses (record_of 25 1) (hex 7 0xfff860000003e3) 5 8
  pub left_32 : refuses (record_of 32 1) (hex 7 0xfff860000003e3) 5 8
  -- the frame's own rate, by every way in which it is stored; the record's counts for nothing then
  pub own-rate : accepts (record_of 8 1) (hex 11 0xfff8690200039300_0508ec) 8 (Some 44100)
  pub rate_in_thousands : accepts (record_of 8 1) (hex 12 0xfff86c0200032cd9_000520f1) 8 (Some 44000)
  pub rate_in_ones : accepts (record_of 8 1) (hex 13 0xfff86d020003ac44_45000574c0) 8 (Some 44100)
  pub rate_in_tens : accepts unknown (hex 13 0xfff86e020003113a_e50005582c) 8 (Some 44100)
  -- a stored rate of 0 is the frame's own
  pub stored-rate_0 : accepts (record_of 8 44100) (hex 13 0xfff86d0200030000_7a000516f2) 8 (Some 0)
  pub no_rate : accepts unknown (hex 11 0xfff8600200033500_050984) 8 None
  -- a record that no stream has, before anything, also where the frame has bits of its own
  pub bits_3_of_nothing : refuses (record_of 3 44100) [] 2 11
  pub bits_33_of_nothing : refuses (record_of 33 44100) [] 2 11
  pub bits_33_of_own : refuses (record_of 33 44100) (hex 11 0xfff8600200033500_050984) 5 11
  pub bits_33_of_no_frame : refuses (record_of 33 44100) (hex 2 0xf8ff) 5 11
  pub bits_4_of_nothing : refuses (record_of 4 44100) [] 2 1
  pub bits_32_of_nothing : refuses (record_of 32 44100) [] 2 1
  -- own bits that are not the stream's: after the CRC-8, before the room, whatever the subframes
  pub same_bits : accepts (record_of 8 44100) (hex 11 0xfff8600200033500_050984) 8 (Some 44100)
  pub sum-before-other-bits : refuses (record_of 16 44100) (hex 7 0xfff86002000334) 5 6
  pub other-bits-before-room : refuses (record_of 16 44100) (hex 7 0xfff86002000335) 3 9
  pub other-bits-before-subframe : refuses (record_of 16 44100) (hex 8 0xfff8600200033580) 5 9
  pub other-bits_above_24 : refuses (record_of 32 44100) (hex 7 0xfff86002000335) 5 9
  pub same_bits-before-room : refuses (record_of 8 44100) (hex 7 0xfff86002000335) 3 7
  -- bits left to a stream of more than 24, before the larger block; own bits that are its own, then the larger block
  pub left_25_before_larger : refuses (record_and_blocks 25 44100 3) (hex 7 0xfff860000003e3) 3 8
  pub same_bits_then_larger : refuses (record_and_blocks 8 44100 3) (hex 7 0xfff86002000335) 3 9
  pub left_then_larger : refuses (record_and_blocks 8 44100 3) (hex 7 0xfff860000003e3) 3 9

pub given : Given
unfolding computed
given = record {
  left = refl;
  left_13 = refl;
  left_without_record = refl;
  left_24_cut = refl;
  left_25 = refl;
  left_32 = refl;
  own-rate = refl;
  rate_in_thousands = refl;
  rate_in_ones = refl;
  rate_in_tens = refl;
  stored-rate_0 = refl;
  no_rate = refl;
  bits_3_of_nothing = refl;
  bits_33_of_nothing = refl;
  bits_33_of_own = refl;
  bits_33_of_no_frame = refl;
  bits_4_of_nothing = refl;
  bits_32_of_nothing = refl;
  same_bits = refl;
  sum-before-other-bits = refl;
  other-bits-before-room = refl;
  other-bits-before-subframe = refl;
  other-bits_above_24 = refl;
  same_bits-before-room = refl;
  left_25_before_larger = refl;
  same_bits_then_larger = refl;
  left_then_larger = refl;
}
