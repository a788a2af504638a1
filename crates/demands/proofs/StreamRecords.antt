-- The stream's record: which fields of a header it fills in, and which headers pass the check of their bits. Assumes
-- nothing.
use Prim.Native.Nat.{ℕ, ◌≤◌, ◌<◌}
use mathlib.Core.Bool.{Bool, true, false, ◌&&◌}
use mathlib.Core.Path.{◌≡◌, refl}
use borrow.Author.Tests.{ltb-true, leb-true, lt-ltb, le-leb}
use lib.Dec.{leb, ltb}
use Rattle.std.specs.Prelude.{Option, Some, None}
use Rattle.reading.proofs.ByteRuns.{and_fst, and_snd}
use Rattle.rfc9639.specs.declared.FrameHeader.{FrameHeader}
use Rattle.rfc9639.specs.declared.StreamRecord.{StreamRecord}
use Rattle.rfc9639.specs.Header.{sample_count}
use Rattle.rfc9639.specs.Stream.{completed, bits_read}
use Rattle.demands.proofs.Headers.{Sound}

-- ---- a header with the stream's values has its own time, size and channels

pub completed_time : (stream : Option StreamRecord) (h : FrameHeader) → (completed stream h).time ≡ h.time
unfolding completed
completed_time None h = refl
completed_time (Some r) h = refl

pub completed-size : (stream : Option StreamRecord) (h : FrameHeader) → (completed stream h).size ≡ h.size
unfolding completed
completed-size None h = refl
completed-size (Some r) h = refl

pub completed-channels : (stream : Option StreamRecord) (h : FrameHeader) → (completed stream h).channels ≡ h.channels
unfolding completed
completed-channels None h = refl
completed-channels (Some r) h = refl

-- so it has as many samples
pub completed-count : (stream : Option StreamRecord) (h : FrameHeader) → sample_count (completed stream h) ≡ sample_count h
unfolding completed sample_count
completed-count None h = refl
completed-count (Some r) h = refl

-- the stream can have up to 32 bits, so these are for the check after it
pub completed-sound : (stream : Option StreamRecord) {h : FrameHeader} → Sound h → (completed stream h).bits ≤ 24 → Sound (completed stream h)
unfolding completed
completed-sound None sound few = sound
completed-sound (Some r) sound few = record {
  some = sound.some;
  size = sound.size;
  mono = sound.mono;
  channels = sound.channels;
  bits = few;
  number = sound.number;
}

-- ---- the bits that are read are 1 to 24

pub bits_read_lem : {b : ℕ} → 0 < b → b ≤ 24 → bits_read b ≡ true
unfolding bits_read
bits_read_lem {b} some few = rw (lt-ltb 0 b some, le-leb b 24 few) refl

pub read_bits_lem : (b : ℕ) → bits_read b ≡ true → (0 < b) × (b ≤ 24)
unfolding bits_read
read_bits_lem b e = (ltb-true 0 b (and_fst (ltb 0 b) (leb b 24) e), leb-true b 24 (and_snd (ltb 0 b) (leb b 24) e))

-- bits of at most 24 are read unless they are unknown
pub few_bits-read : {b : ℕ} → b ≤ 24 → bits_read b ≡ ltb 0 b
unfolding bits_read
few_bits-read {b} few = rw (le-leb b 24 few) (go (ltb 0 b))
  where
    go : (x : Bool) → (x && true) ≡ x
    go true = refl
    go false = refl
