-- The settings of the reader, and what they mean for a frame of the stream.
use Rattle.std.specs.Prelude.{ℕ, ◌*◌, Option, Some, None, Bool, true, ◌&&◌, leb, ltb, eqb, if◌then◌else◌}
use Rattle.rfc9639.specs.declared.BlockTime.{BlockTime}
use Rattle.rfc9639.specs.declared.BlockTime.TheVariants.{FrameNumber, SampleNumber}
use Rattle.rfc9639.specs.declared.FrameHeader.{FrameHeader}
use Rattle.rfc9639.specs.declared.Settings.{Settings}
use Rattle.rfc9639.specs.declared.StreamRecord.{StreamRecord}
use Rattle.rfc9639.specs.HeaderCodes.{largest_block_size}

-- Section 9.1.6: a block has 1 to 65535 samples. The size may be unknown.
unfoldable pub in_range : Option ℕ → Bool
in_range None = true
in_range (Some size) = ltb 0 size && leb size largest_block_size

-- Section 8.2: a sample has 4 to 32 bits. The caller may have no stream header.
unfoldable pub bits_in_range : Option StreamRecord → Bool
bits_in_range None = true
bits_in_range (Some r) = leb 4 r.bits && leb r.bits 32

-- settings that a stream can have
unfoldable pub possible : Settings → Bool
possible set = in_range set.block && bits_in_range set.stream

-- ---- what a frame header leaves to the stream

-- Section 9.1.2: the frame's own rate, or else the stream's.
unfoldable pub rate_or : ℕ → Option ℕ → Option ℕ
rate_or streams None = Some streams
rate_or streams (Some own) = Some own

-- Section 9.1.4: the frame's own bits, or else (0) the stream's.
unfoldable pub bits_or : ℕ → ℕ → ℕ
bits_or streams own = if eqb own 0 then streams else own

-- a frame header with the values of the stream filled in
unfoldable pub completed : Option StreamRecord → FrameHeader → FrameHeader
completed None h = h
completed (Some r) h = record {
  time = h.time;
  size = h.size;
  rate = rate_or r.rate h.rate;
  channels = h.channels;
  bits = bits_or r.bits h.bits;
}

-- the bits of a sample that are read; 0 bits are unknown
unfoldable pub bits_read : ℕ → Bool
bits_read b = ltb 0 b && leb b 24

-- Section 9.1.4: all frames of a stream have its bits.
unfoldable pub bits_fit : Option StreamRecord → ℕ → Bool
bits_fit None own = true
bits_fit (Some r) own = eqb own r.bits

-- ---- blocks

-- Section 9.1: under fixed blocking no block is larger than the stream's, and only the last may be smaller.
unfoldable pub block_fits : Option ℕ → BlockTime → ℕ → Bool
block_fits (Some size) (FrameNumber n) own = leb own size
block_fits (Some size) (SampleNumber n) own = true
block_fits None time own = true

-- Section 9.1.5: the number of the frame's first sample. A frame's number counts blocks of the stream's size.
unfoldable pub first_sample : Option ℕ → BlockTime → Option ℕ
first_sample block (SampleNumber n) = Some n
first_sample (Some size) (FrameNumber n) = Some (size * n)
first_sample None (FrameNumber n) = None

-- the same as two plain numbers: whether it is known, 1 or 0, and the number, or 0 if it is unknown
abbrev pub first_known : Option ℕ → ℕ
first_known None = 0
first_known (Some n) = 1

abbrev pub first_number : Option ℕ → ℕ
first_number None = 0
first_number (Some n) = n
