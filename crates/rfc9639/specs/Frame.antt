-- The frame (RFC 9639 section 9): header, subframes, footer.
use Rattle.std.specs.Prelude.{ℕ, ◌+◌, ◌-◌, ◌%◌, List, [], ◌∷◌, leb, eqb, ℤ, length, replicate}
use Rattle.reading.specs.Readers.{Ask, done, ◌>>=◌, ◌>>◌, bits, passed, require, each}
use Rattle.rfc9639.specs.declared.ChannelAssignment.{ChannelAssignment}
use Rattle.rfc9639.specs.declared.ChannelAssignment.TheVariants.{Independent, LeftSide, SideRight, MidSide}
use Rattle.rfc9639.specs.declared.FrameHeader.{FrameHeader}
use Rattle.rfc9639.specs.declared.Settings.{Settings}
use Rattle.rfc9639.specs.CheckSums.{crc16}
use Rattle.rfc9639.specs.Header.{header, sample_count}
use Rattle.rfc9639.specs.Subframe.{subframe}
use Rattle.rfc9639.specs.Stereo.{left_and_right}
use Rattle.rfc9639.specs.Stream.{possible, completed, bits_read, bits_fit, block_fits}

-- what the caller gives besides the bytes: its settings, and room for this many samples
pub record ReaderSettings : Type 0 where
  pub given : Settings
  pub room : ℕ

-- A header whose frame can be read: its bits are known and read here, they are the stream's, its block belongs to the
-- stream, and there is room for the frame's samples.
unfoldable pub checked : ReaderSettings → FrameHeader → Ask FrameHeader
checked set h = do
  require (bits_read h.bits) 8
  require (bits_fit set.given.stream h.bits) 9
  require (block_fits set.given.block h.time h.size) 9
  require (leb (sample_count h) set.room) 7
  done h

-- Settings that no stream has are refused before anything is read. What the header leaves to the stream is filled in.
unfoldable pub opening : ReaderSettings → Ask FrameHeader
opening set = do
  require (possible set.given) 11
  own ← header
  checked set (completed set.given.stream own)

-- the width of each channel (section 4.2): a side channel is one bit wider
unfoldable pub widths : ChannelAssignment → ℕ → List ℕ
widths (Independent n) b = replicate n b
widths LeftSide b = b ∷ (b + 1) ∷ []
widths SideRight b = (b + 1) ∷ b ∷ []
widths MidSide b = b ∷ (b + 1) ∷ []

-- how many bits, after n bits, are left up to the next whole byte
unfoldable pub padding : ℕ → ℕ
padding n = (8 - n % 8) % 8

-- Section 9.3. The padding is skipped without a check. The CRC-16 is over all bytes of the frame before it.
unfoldable pub footer : Ask (Unit {0})
footer = do
  coded ← passed
  pad ← bits (padding (length coded))
  before ← passed
  sum ← bits 16
  require (eqb sum (crc16 before)) 10

-- what follows the header: the samples of all channels, one channel after the other
unfoldable pub body : FrameHeader → Ask (List ℤ)
body h = do
  xs ← each (subframe h.size) (widths h.channels h.bits)
  footer
  done (left_and_right h.channels h.size xs)

pub record Frame : Type 0 where
  pub header : FrameHeader
  pub samples : List ℤ

unfoldable pub frame : ReaderSettings → Ask Frame
frame set = do
  h ← opening set
  xs ← body h
  done (record { header = h; samples = xs })
