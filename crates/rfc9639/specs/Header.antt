-- The frame header (RFC 9639 section 9.1). The fields are checked in their order, each as soon as it is read.
-- A refusal's number is document 01's.
use Rattle.std.specs.Prelude.{ℕ, ◌*◌, ◌/◌, ◌%◌, ◌||◌, leb, ltb, eqb, if◌then◌else◌}
use Rattle.reading.specs.Readers.{Ask, done, ◌>>=◌, ◌>>◌, bits, passed, require}
use Rattle.rfc9639.specs.declared.BlockTime.{BlockTime}
use Rattle.rfc9639.specs.declared.BlockTime.TheVariants.{FrameNumber, SampleNumber}
use Rattle.rfc9639.specs.declared.ChannelAssignment.{ChannelAssignment}
use Rattle.rfc9639.specs.declared.Codes.{Codes}
use Rattle.rfc9639.specs.declared.FrameHeader.{FrameHeader}
use Rattle.rfc9639.specs.CheckSums.{crc8}
use Rattle.rfc9639.specs.HeaderCodes.{sync_code, largest_frame_number, block_size, rate_bits, sample_rate, assignment, channel_count, bit_depth}
use Rattle.rfc9639.specs.Number.{coded_number}

-- a frame's number where the blocking bit is 0, a sample's where it is 1
unfoldable pub time_of : ℕ → ℕ → BlockTime
time_of blocking n = if eqb blocking 0 then FrameNumber n else SampleNumber n

-- The sync code and the blocking bit, which is the result. Both bytes are read before the sync code is checked.
unfoldable pub sync : Ask ℕ
sync = do
  v ← bits 16
  require (eqb (v / 2) sync_code) 3
  done (v % 2)

-- the third byte: the codes of the block size and of the sample rate
unfoldable pub size_and_rate : Ask (ℕ × ℕ)
size_and_rate = do
  size ← bits 4
  require (ltb 0 size) 4
  rate ← bits 4
  require (ltb rate 15) 4
  done (size, rate)

-- the bits of a sample, and the bit after them, which must be zero
unfoldable pub depth_and_zero : Ask ℕ
depth_and_zero = do
  code ← bits 3
  depth ← bit_depth code
  reserved ← bits 1
  require (eqb reserved 0) 4
  done depth

-- the fourth byte: the channels and the bits of a sample
unfoldable pub channels_and_bits : Ask (ChannelAssignment × ℕ)
channels_and_bits = do
  code ← bits 4
  require (leb code 10) 4
  depth ← depth_and_zero
  done (assignment code, depth)

-- the first four bytes
unfoldable pub codes : Ask Codes
codes = do
  blocking ← sync
  (size, rate) ← size_and_rate
  (channels, depth) ← channels_and_bits
  done (record { blocking = blocking; size = size; rate = rate; channels = channels; bits = depth })

-- A frame's number has at most 31 bits, which is checked once its last byte is read.
unfoldable pub block_time : ℕ → Ask BlockTime
block_time blocking = do
  number ← coded_number
  require (eqb blocking 1 || leb number largest_frame_number) 5
  done (time_of blocking number)

-- Section 9.1.8: the check sum of all header bytes before it.
unfoldable pub header_sum : Ask (Unit {0})
header_sum = do
  before ← passed
  sum ← bits 8
  require (eqb sum (crc8 before)) 6

-- the header after its first four bytes
unfoldable pub header_after_codes : Codes → Ask FrameHeader
header_after_codes c = do
  time ← block_time c.blocking
  size ← block_size c.size
  stored ← bits (rate_bits c.rate)
  header_sum
  done (record { time = time; size = size; rate = sample_rate c.rate stored; channels = c.channels; bits = c.bits })

unfoldable pub header : Ask FrameHeader
header = do
  c ← codes
  header_after_codes c

-- ---- what a header says of its frame

-- the samples of all channels together
unfoldable pub sample_count : FrameHeader → ℕ
sample_count h = channel_count h.channels * h.size
