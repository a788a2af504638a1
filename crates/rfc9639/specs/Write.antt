-- The frame that the writer writes (RFC 9639 section 9; document 01, "The added writer"), and the result of writing.
use Rattle.std.specs.Prelude.{ℕ, zero, suc, ◌+◌, ◌-◌, ◌*◌, ◌/◌, ◌%◌, ◌^◌, Bool, true, ◌&&◌, ◌||◌, List, [], ◌∷◌, ◌++◌, map, leb, ltb, eqb, ℤ, pos, negsuc, ◌+ℤ◌, ◌-ℤ◌, length, take, drop, replicate, if◌then◌else◌}
use Rattle.reading.specs.Bytes.{bits_of_bytes}
use Rattle.reading.specs.NumbersAsBits.{bits_of, row, packed}
use Rattle.rfc9639.specs.declared.ChannelAssignment.{ChannelAssignment}
use Rattle.rfc9639.specs.declared.ChannelAssignment.TheVariants.{Independent, LeftSide, SideRight, MidSide}
use Rattle.rfc9639.specs.declared.FrameSetting.{FrameSetting}
use Rattle.rfc9639.specs.declared.Lane.{Lane}
use Rattle.rfc9639.specs.declared.Lane.TheVariants.{Channel, Mid, Side}
use Rattle.rfc9639.specs.CheckSums.{crc8, crc16}
use Rattle.rfc9639.specs.Integers.{shift_down}
use Rattle.rfc9639.specs.HeaderCodes.{sync_code, largest_block_size, largest_frame_number, largest_sample_number, size_code, size_bits, assignment, channel_count, bits_code}
use Rattle.rfc9639.specs.Stereo.{pairwise}
use Rattle.rfc9639.specs.Frame.{padding}
use Rattle.rfc9639.specs.SubframeCoding.{numbers_from, subframe_bits}

-- ---- the header

-- n bytes 10xxxxxx
unfoldable pub followers : ℕ → ℕ → List ℕ
followers zero v = []
followers (suc n) v = (0x80 + v / 64 ^ n % 64) ∷ followers n v

-- Section 9.1.5: the shortest form of a number below 2 ^ 36, in bytes.
unfoldable pub number_bytes : ℕ → List ℕ
number_bytes v =
    if ltb v 0x80 then v ∷ []
    else if ltb v 0x800 then (0xc0 + v / 64 ^ 1) ∷ followers 1 v
    else if ltb v 0x1_0000 then (0xe0 + v / 64 ^ 2) ∷ followers 2 v
    else if ltb v 0x20_0000 then (0xf0 + v / 64 ^ 3) ∷ followers 3 v
    else if ltb v 0x400_0000 then (0xf8 + v / 64 ^ 4) ∷ followers 4 v
    else if ltb v 0x8000_0000 then (0xfc + v / 64 ^ 5) ∷ followers 5 v
    else 0xfe ∷ followers 6 v

-- the first four bytes: the rate code is 0
unfoldable pub code_bits : FrameSetting → List ℕ
code_bits set =
    bits_of 15 sync_code ++ bits_of 1 set.blocking ++ bits_of 4 (size_code set.size) ++ bits_of 4 0
    ++ bits_of 4 set.channels ++ bits_of 3 (bits_code set.bits) ++ bits_of 1 0

-- the header before its check sum
unfoldable pub field_bits : FrameSetting → List ℕ
field_bits set = code_bits set ++ bits_of_bytes (number_bytes set.number) ++ size_bits set.size

-- Section 9.1.8.
unfoldable pub header_bits : FrameSetting → List ℕ
header_bits set = field_bits set ++ bits_of 8 (crc8 (field_bits set))

-- ---- what each subframe stores

unfoldable pub lane_of : ChannelAssignment → ℕ → Lane
lane_of (Independent k) c = Channel c
lane_of LeftSide c = if eqb c 0 then Channel 0 else Side
lane_of SideRight c = if eqb c 0 then Side else Channel 1
lane_of MidSide c = if eqb c 0 then Mid else Side

unfoldable pub lanes : ChannelAssignment → List Lane
lanes a = map (lane_of a) (numbers_from 0 (channel_count a))

-- section 4.2: a side channel is one bit wider
unfoldable pub lane_width : ℕ → Lane → ℕ
lane_width b (Channel c) = b
lane_width b Mid = b
lane_width b Side = b + 1

-- the mean rounded down
unfoldable pub mid_of : ℤ → ℤ → ℤ
mid_of left right = shift_down 1 (left +ℤ right)

unfoldable pub side_of : ℤ → ℤ → ℤ
side_of left right = left -ℤ right

-- channel c of samples that are stored channel after channel, n for each
unfoldable pub channel_samples : ℕ → List ℤ → ℕ → List ℤ
channel_samples n xs c = take n (drop (c * n) xs)

unfoldable pub stored : ℕ → List ℤ → Lane → List ℤ
stored n xs (Channel c) = channel_samples n xs c
stored n xs Mid = pairwise mid_of (channel_samples n xs 0) (channel_samples n xs 1)
stored n xs Side = pairwise side_of (channel_samples n xs 0) (channel_samples n xs 1)

-- ---- the frame

unfoldable pub lane_bits : ℕ → ℕ → List ℤ → Lane → List ℕ
lane_bits b n xs lane = subframe_bits (lane_width b lane) (stored n xs lane)

unfoldable pub subframes_bits : FrameSetting → List ℤ → List ℕ
subframes_bits set xs = row (lane_bits set.bits set.size xs) (lanes (assignment set.channels))

-- with zeros up to a whole byte
unfoldable pub padded_to_byte : List ℕ → List ℕ
padded_to_byte s = s ++ replicate (padding (length s)) 0

-- Section 9.3: the check sum of all bytes before it.
unfoldable pub footed : List ℕ → List ℕ
footed s = s ++ bits_of 16 (crc16 s)

unfoldable pub frame_bits : FrameSetting → List ℤ → List ℕ
frame_bits set xs = footed (padded_to_byte (header_bits set ++ subframes_bits set xs))

-- the bytes of the frame
unfoldable pub frame_bytes : FrameSetting → List ℤ → List ℕ
frame_bytes set xs = packed (frame_bits set xs)

-- The most bits that the subframes take: for each channel a header of 8 bits and the samples as they are.
unfoldable pub most_bits : ℕ → ℕ → List Lane → ℕ
most_bits b n [] = 0
most_bits b n (lane ∷ ls) = 8 + n * lane_width b lane + most_bits b n ls

-- the most bytes that a frame takes
unfoldable pub frame_bound : FrameSetting → ℕ
frame_bound set = 16 + (most_bits set.bits set.size (lanes (assignment set.channels)) + 7) / 8

-- ---- the result of writing

-- the bits of a sample that can be written
unfoldable pub writable : ℕ → Bool
writable b = eqb b 8 || eqb b 12 || eqb b 16 || eqb b 20 || eqb b 24

-- the largest number: a frame's where the blocking bit is 0, else a sample's
unfoldable pub number_limit : ℕ → ℕ
number_limit blocking = if eqb blocking 0 then largest_frame_number else largest_sample_number

-- settings that a frame of `count` samples can have
unfoldable pub allowed : FrameSetting → ℕ → Bool
allowed set count =
    leb set.channels 10 && writable set.bits && leb set.blocking 1 && ltb 0 set.size && leb set.size largest_block_size
    && leb set.number (number_limit set.blocking) && eqb count (channel_count (assignment set.channels) * set.size)

-- a sample of w bits, in two's complement
unfoldable pub fits : ℕ → ℤ → Bool
fits w (pos n) = ltb n (2 ^ (w - 1))
fits w (negsuc n) = ltb n (2 ^ (w - 1))

unfoldable pub all_fit : ℕ → List ℤ → Bool
all_fit w [] = true
all_fit w (x ∷ xs) = fits w x && all_fit w xs

-- `number` is 0 for a frame, else the refusal's number; the length of a refusal is 0
pub record Written : Type 0 where
  pub number : ℕ
  pub length : ℕ
  pub output : List ℕ

unfoldable pub unwritten : ℕ → List ℕ → Written
unwritten n out = record { number = n; length = 0; output = out }

-- The result of writing some samples into an output.
unfoldable pub write : FrameSetting → List ℤ → List ℕ → Written
write set xs out =
    if allowed set (length xs)
    then if all_fit set.bits xs
    then if leb (length (frame_bytes set xs)) (length out)
    then record { number = 0; length = length (frame_bytes set xs); output = frame_bytes set xs ++ drop (length (frame_bytes set xs)) out }
    else unwritten 13 out
    else unwritten 12 out
    else unwritten 11 out
