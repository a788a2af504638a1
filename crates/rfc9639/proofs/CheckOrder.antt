-- The order of the checks: inputs on which another order would give another number or another buffer. Assumes nothing.
use Prim.Native.Nat.{ℕ, ◌-◌}
use mathlib.Core.Path.{◌≡◌, refl}
use mathlib.Core.List.{List, [], ◌++◌}
use lib.IntN.{pos}
use lib.ListN.{length, replicate}
use Rattle.std.specs.Prelude.{Option, Some, None}
use Rattle.rfc9639.specs.declared.Settings.{Settings}
use Rattle.rfc9639.specs.Read.{refusal, read}
use Rattle.rfc9639.proofs.Evaluation.{hex, blocks_of, unknown, computed}

-- refused with number n, and the buffer of sevens is untouched
abbrev refuses_given : Settings → List ℕ → ℕ → ℕ → Type 0
refuses_given set s room n = read set s (replicate room (pos 7)) ≡ record { report = refusal n; buffer = replicate room (pos 7) }

abbrev refuses : List ℕ → ℕ → ℕ → Type 0
refuses = refuses_given unknown

-- a frame of four equal samples that is accepted with this first sample
abbrev accepts : Settings → List ℕ → Option ℕ → Type 0
accepts set s first =
    read set s (replicate 5 (pos 7))
    ≡ record {
      report = record { number = 0; consumed = length s; first = first; rate = None; channels = 1; bits = 8; size = 4 };
      buffer = replicate 4 (pos 5) ++ replicate 1 (pos 7);
    }

-- refused with number n, and the first samples are zero
abbrev clears : List ℕ → ℕ → ℕ → ℕ → Type 0
clears s room places n = read unknown s (replicate room (pos 7)) ≡ record { report = refusal n; buffer = replicate places (pos 0) ++ replicate (room - places) (pos 7) }

pub record Ordered : Type 0 where
  pub empty : refuses [] 2 1
  -- one byte alone is never refused
  pub one_byte : refuses (hex 1 0xff) 2 2
  pub two_bytes : refuses (hex 2 0xfff8) 2 2
  -- the sync bits are checked once two bytes are there
  pub not_sync : refuses (hex 2 0xf8ff) 2 3
  pub reserved-sync : refuses (hex 2 0xfffa) 2 3
  pub size_code_0 : refuses (hex 3 0xfff800) 2 4
  pub rate-code_15 : refuses (hex 3 0xfff81f) 2 4
  -- in the fourth byte: channels, bit depth, zero bit
  pub channels-before-bits : refuses (hex 4 0xfff810be) 2 4
  pub bits-before-zero_bit : refuses (hex 4 0xfff8100f) 2 8
  pub bits_code_3 : refuses (hex 4 0xfff81006) 2 4
  pub zero_bit : refuses (hex 4 0xfff81009) 2 4
  pub number-byte_by_byte : refuses (hex 5 0xfff81008c2) 2 2
  pub number_ff : refuses (hex 5 0xfff81008ff) 2 5
  -- a frame number's limit is checked at its last byte
  pub limit_not_yet : refuses (hex 10 0xfff86008fe828080_8080) 2 2
  pub limit : refuses (hex 11 0xfff86008fe828080_808080) 2 5
  pub size_65535 : refuses (hex 7 0xfff8700800ffff) 2 4
  -- the CRC-8, then bit depth code 0, then the room
  pub sum-before-stream-bits : refuses (hex 7 0xfff860000000eb) 2 6
  pub stream-bits-before-room : refuses (hex 7 0xfff860000000ea) 0 8
  pub no_room : refuses (hex 12 0xfff860080000bb00_0005483c) 0 7
  pub room-before-subframe : refuses (hex 7 0xfff860080000bb) 0 7
  pub header-alone : refuses (hex 7 0xfff860080000bb) 2 2
  -- a block size that no stream has, before anything
  pub block_0_of_nothing : refuses_given (blocks_of 0) [] 2 11
  pub block_65536_of_nothing : refuses_given (blocks_of 65536) [] 2 11
  pub block_0_of_frame : refuses_given (blocks_of 0) (hex 11 0xfff8600200033500_050984) 5 11
  pub block_65535_of_nothing : refuses_given (blocks_of 65535) [] 2 1
  -- a block larger than the stream's: after the CRC-8 and bit depth code 0, before the room and the first subframe
  pub sum-before_larger : refuses_given (blocks_of 3) (hex 7 0xfff86002000334) 5 6
  pub stream-bits-before_larger : refuses_given (blocks_of 3) (hex 7 0xfff860000003e3) 5 8
  pub larger_before-room : refuses_given (blocks_of 3) (hex 7 0xfff86002000335) 3 9
  pub larger_before-subframe : refuses_given (blocks_of 3) (hex 8 0xfff8600200033580) 5 9
  -- not so under variable blocking, where the first sample is the number whatever the size
  pub larger_variable : accepts (blocks_of 3) (hex 11 0xfff960020903ea00_0594b5) (Some 9)
  pub unknown_variable : accepts unknown (hex 11 0xfff960020903ea00_0594b5) (Some 9)
  -- under fixed blocking the first sample is known if the size is, also where the number is 0
  pub short-block : accepts (blocks_of 16) (hex 11 0xfff8600203030a00_050a00) (Some 48)
  pub own_block : accepts (blocks_of 4) (hex 11 0xfff8600203030a00_050a00) (Some 12)
  pub unknown-block : accepts unknown (hex 11 0xfff8600203030a00_050a00) None
  pub unknown-block_0 : accepts unknown (hex 11 0xfff8600200033500_050984) None
  -- from the first bit of the first subframe on, the first N are zero
  pub first_bit : clears (hex 8 0xfff860080000bb80) 2 1 4
  pub reserved_type : clears (hex 8 0xfff860080000bb04) 2 1 4
  pub type_then_cut : clears (hex 8 0xfff860080000bb03) 2 1 2
  -- as many wasted bits as a sample has, or more
  pub all_wasted : clears (hex 10 0xfff860080000bb03_0001) 2 1 9
  pub wasted_over_31 : clears (hex 12 0xfff860080000bb03_00000001) 2 1 9
  -- zeros without a one that ends them are cut short, however many
  pub wasted_unended : clears (hex 14 0xfff860080000bb03_000000000000) 2 1 2
  -- a predictor order above the block size is refused before any warm-up bit is read
  pub order_over_size : clears (hex 8 0xfff860080000bb14) 2 1 9
  pub precision_15 : clears (hex 10 0xfff8600200033540_01f0) 4 4 4
  pub negative_shift : clears (hex 11 0xfff8600200033540_013800) 4 4 8
  -- the method before the partition order
  pub method_2 : clears (hex 9 0xfff8600200033510_bc) 4 4 4
  pub no_multiple : clears (hex 9 0xfff8600200023210_04) 4 3 9
  pub warm_up_over_partition : clears (hex 11 0xfff8600200033514_010208) 4 4 9
  -- an escaped partition has its width even if it has no residuals: the last two bytes would be the CRC-16 without it
  pub width_of-none : clears (hex 13 0xfff8600200013b15_41080f76bf) 4 2 2
  pub frame-sum : clears (hex 12 0xfff860080000bb00_0005483d) 2 1 10
  pub sum-cut : clears (hex 11 0xfff860080000bb00_000548) 2 1 2

pub ordered : Ordered
unfolding computed
ordered = record {
  empty = refl;
  one_byte = refl;
  two_bytes = refl;
  not_sync = refl;
  reserved-sync = refl;
  size_code_0 = refl;
  rate-code_15 = refl;
  channels-before-bits = refl;
  bits-before-zero_bit = refl;
  bits_code_3 = refl;
  zero_bit = refl;
  number-byte_by_byte = refl;
  number_ff = refl;
  limit_not_yet = refl;
  limit = refl;
  size_65535 = refl;
  sum-before-stream-bits = refl;
  stream-bits-before-room = refl;
  no_room = refl;
  room-before-subframe = refl;
  header-alone = refl;
  block_0_of_nothing = refl;
  block_65536_of_nothing = refl;
  block_0_of_frame = refl;
  block_65535_of_nothing = refl;
  sum-before_larger = refl;
  stream-bits-before_larger = refl;
  larger_before-room = refl;
  larger_before-subframe = refl;
  larger_variable = refl;
  unknown_variable = refl;
  short-block = refl;
  own_block = refl;
  unknown-block = refl;
  unknown-block_0 = refl;
  first_bit = refl;
  reserved_type = refl;
  type_then_cut = refl;
  all_wasted = refl;
  wasted_over_31 = refl;
  wasted_unended = refl;
  order_over_size = refl;
  precision_15 = refl;
  negative_shift = refl;
  method_2 = refl;
  no_multiple = refl;
  warm_up_over_partition = refl;
  width_of-none = refl;
  frame-sum = refl;
  sum-cut = refl;
}
