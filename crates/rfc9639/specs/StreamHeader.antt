-- The stream header (RFC 9639 sections 6 and 8): the mark fLaC, then metadata blocks, the first of which is STREAMINFO.
-- The fields are checked in their order, each as soon as it is read. A refusal's number is document 01's.
use Rattle.std.specs.Prelude.{ℕ, zero, suc, ◌+◌, ◌*◌, Bool, List, leb, ltb, eqb, length, if◌then◌else◌}
use Rattle.reading.specs.Readers.{Ask, done, stop, ◌>>=◌, ◌>>◌, bits, require}
use Rattle.reading.specs.Places.{At, run_at, place_of}
use Rattle.rfc9639.specs.declared.Md5.{Md5}
use Rattle.rfc9639.specs.declared.Sizes.{Sizes}
use Rattle.rfc9639.specs.declared.StreamInfo.{StreamInfo}

-- Section 6: the four bytes fLaC.
unfoldable pub mark : Ask (Unit {0})
mark = do
  v ← bits 32
  require (eqb v 0x664c6143) 3

-- ---- STREAMINFO

-- the smallest and the largest, in w bits each
unfoldable pub sizes : ℕ → Ask Sizes
sizes w = do
  smallest ← bits w
  largest ← bits w
  done (record { smallest = smallest; largest = largest })

-- The sample rate, the number of channels and the bits of a sample, at least 4. The last two are stored less one.
unfoldable pub rate_channels_and_bits : Ask (ℕ × ℕ × ℕ)
rate_channels_and_bits = do
  rate ← bits 20
  channels ← bits 3
  depth ← bits 5
  require (leb 4 (depth + 1)) 9
  done (rate, channels + 1, depth + 1)

unfoldable pub md5 : Ask Md5
md5 = do
  high ← bits 64
  low ← bits 64
  done (record { high = high; low = low })

-- Section 8.2. Nothing else is checked.
unfoldable pub stream_info : Ask StreamInfo
stream_info = do
  blocks ← sizes 16
  frames ← sizes 24
  (rate, channels, depth) ← rate_channels_and_bits
  samples ← bits 36
  sum ← md5
  done (record {
    blocks = blocks;
    frames = frames;
    rate = rate;
    channels = channels;
    bits = depth;
    samples = samples;
    md5 = sum;
  })

-- ---- the metadata blocks

-- Section 8.1: whether the block is the last one, and its type. Type 127 is forbidden.
unfoldable pub last_and_type : Ask (Bool × ℕ)
last_and_type = do
  last ← bits 1
  type ← bits 7
  require (ltb type 127) 4
  done (eqb last 1, type)

-- The first block is STREAMINFO, type 0, of 34 bytes.
unfoldable pub first_block : Ask (Bool × StreamInfo)
first_block = do
  (last, type) ← last_and_type
  require (eqb type 0) 9
  size ← bits 24
  require (eqb size 34) 9
  info ← stream_info
  done (last, info)

-- A later block may have any type. What is read of it is whether it is the last one, and its length in bytes.
unfoldable pub block_head : Ask (Bool × ℕ)
block_head = do
  (last, type) ← last_and_type
  size ← bits 24
  done (last, size)

-- Its contents are skipped, and must be there whole. The result says whether it is the last one.
unfoldable pub skipped_block : Ask Bool
skipped_block = do
  (last, size) ← block_head
  contents ← bits (8 * size)
  done last

-- The later blocks, up to the last: at most n of them. An input with more would be taken for one that is cut short, but
-- no input has as many blocks as bytes.
unfoldable pub skipped_blocks : ℕ → Ask (Unit {0})
skipped_blocks zero = stop 2
skipped_blocks (suc n) = do
  last ← skipped_block
  if last then done tt else skipped_blocks n

-- ---- the whole

-- the mark and STREAMINFO, and whether that is the last block
unfoldable pub stream_start : Ask (Bool × StreamInfo)
stream_start = mark >> first_block

-- the stream header, with at most n blocks after the first
unfoldable pub stream_header : ℕ → Ask StreamInfo
stream_header n = do
  (last, info) ← stream_start
  if last then done tt else skipped_blocks n
  done info

-- THE STREAM HEADER of some bytes, and the place after it, where the frames start.
unfoldable pub stream_header_of : List ℕ → At StreamInfo
stream_header_of s = run_at (stream_header (length s)) s (place_of 0)
