-- The numbers of the frame header that the reader and the writer share (RFC 9639 section 9.1): its constants, and its
-- code tables, each in both directions. A refusal's number is document 01's.
use Rattle.std.specs.Prelude.{ℕ, ◌+◌, ◌-◌, ◌*◌, ◌^◌, Option, Some, None, List, [], leb, ltb, eqb, if◌then◌else◌}
use Rattle.reading.specs.Readers.{Ask, done, stop, ◌>>=◌, ◌>>◌, bits, require}
use Rattle.reading.specs.NumbersAsBits.{bits_of}
use Rattle.rfc9639.specs.declared.ChannelAssignment.{ChannelAssignment}
use Rattle.rfc9639.specs.declared.ChannelAssignment.TheVariants.{Independent, LeftSide, SideRight, MidSide}

-- ---- constants

-- Section 9.1: the fifteen bits that start a frame.
abbrev pub sync_code : ℕ
sync_code = 0x7ffc

-- Section 9.1.6: the stored value 65535, which would mean 65536 samples, is reserved.
abbrev pub largest_block_size : ℕ
largest_block_size = 65535

-- Section 9.1.5: 31 bits.
abbrev pub largest_frame_number : ℕ
largest_frame_number = 2147483647

-- Section 9.1.5: 36 bits.
abbrev pub largest_sample_number : ℕ
largest_sample_number = 2 ^ 36 - 1

-- ---- the block size

-- Section 9.1.1 and, for the codes 6 and 7, whose size follows the coded number, 9.1.6. Code 0 is refused before.
unfoldable pub block_size : ℕ → Ask ℕ
block_size code =
    if eqb code 1 then done 192
    else if leb code 5 then done (144 * 2 ^ code)
    else if eqb code 6 then (do v ← bits 8; done (v + 1))
    else if eqb code 7 then (do v ← bits 16; require (ltb v largest_block_size) 4; done (v + 1))
    else done (2 ^ code)

-- Section 9.1.1: the size's own code where it has one, else 6 or 7.
unfoldable pub size_code : ℕ → ℕ
size_code n =
    if eqb n 192 then 1
    else if eqb n 576 then 2
    else if eqb n 1152 then 3
    else if eqb n 2304 then 4
    else if eqb n 4608 then 5
    else if eqb n 256 then 8
    else if eqb n 512 then 9
    else if eqb n 1024 then 10
    else if eqb n 2048 then 11
    else if eqb n 4096 then 12
    else if eqb n 8192 then 13
    else if eqb n 16384 then 14
    else if eqb n 32768 then 15
    else if leb n 256 then 6
    else 7

-- Section 9.1.6: the size less one, which follows the coded number, in 8 bits for code 6 and in 16 for code 7.
unfoldable pub size_bits : ℕ → List ℕ
size_bits n =
    if eqb (size_code n) 6 then bits_of 8 (n - 1)
    else if eqb (size_code n) 7 then bits_of 16 (n - 1)
    else []

-- ---- the sample rate

-- Section 9.1.7: how many bits of the sample rate follow the coded number. The writer writes code 0.
unfoldable pub rate_bits : ℕ → ℕ
rate_bits code =
    if eqb code 12 then 8
    else if eqb code 13 then 16
    else if eqb code 14 then 16
    else 0

-- Section 9.1.2 and, for the codes 12 to 14, which count `stored` in thousands, ones and tens, 9.1.7. Code 0 leaves the
-- rate to the stream; code 15 is refused before. No sample and no refusal depends on the rate.
unfoldable pub sample_rate : ℕ → ℕ → Option ℕ
sample_rate code stored =
    if eqb code 1 then Some 88200
    else if eqb code 2 then Some 176400
    else if eqb code 3 then Some 192000
    else if eqb code 4 then Some 8000
    else if eqb code 5 then Some 16000
    else if eqb code 6 then Some 22050
    else if eqb code 7 then Some 24000
    else if eqb code 8 then Some 32000
    else if eqb code 9 then Some 44100
    else if eqb code 10 then Some 48000
    else if eqb code 11 then Some 96000
    else if eqb code 12 then Some (stored * 1000)
    else if eqb code 13 then Some stored
    else if eqb code 14 then Some (stored * 10)
    else None

-- ---- the channels

-- Section 9.1.3. Codes 11 to 15 are refused before. The writer is given the code.
unfoldable pub assignment : ℕ → ChannelAssignment
assignment code =
    if ltb code 8 then Independent (code + 1)
    else if eqb code 8 then LeftSide
    else if eqb code 9 then SideRight
    else MidSide

unfoldable pub channel_count : ChannelAssignment → ℕ
channel_count (Independent n) = n
channel_count LeftSide = 2
channel_count SideRight = 2
channel_count MidSide = 2

-- ---- the bits of a sample

-- Section 9.1.4. Code 0 leaves the bits to the stream; 3 is reserved; code 7, 32 bits, is not supported.
unfoldable pub bit_depth : ℕ → Ask ℕ
bit_depth code =
    if eqb code 0 then done 0
    else if eqb code 1 then done 8
    else if eqb code 2 then done 12
    else if eqb code 3 then stop 4
    else if eqb code 4 then done 16
    else if eqb code 5 then done 20
    else if eqb code 6 then done 24
    else stop 8

-- Section 9.1.4.
unfoldable pub bits_code : ℕ → ℕ
bits_code b =
    if eqb b 8 then 1
    else if eqb b 12 then 2
    else if eqb b 16 then 4
    else if eqb b 20 then 5
    else 6
