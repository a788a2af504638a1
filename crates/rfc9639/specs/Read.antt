-- The whole answer: what the reader reports for some bytes, and what the lent samples hold afterwards. A refusal has
-- document 01's number; crate `error` names the causes.
use Rattle.std.specs.Prelude.{ℕ, Option, None, List, [], ◌∷◌, ◌++◌, ℤ, pos, length, replicate, drop}
use Rattle.reading.specs.declared.Place.{Place}
use Rattle.reading.specs.Readers.{Ask, done, ◌>>=◌, bits}
use Rattle.reading.specs.Places.{At, got_at, refused_at, short_at, run_at, place_of}
use Rattle.rfc9639.specs.declared.FrameHeader.{FrameHeader}
use Rattle.rfc9639.specs.declared.Settings.{Settings}
use Rattle.rfc9639.specs.HeaderCodes.{channel_count}
use Rattle.rfc9639.specs.Header.{sample_count}
use Rattle.rfc9639.specs.Stream.{first_sample}
use Rattle.rfc9639.specs.Frame.{ReaderSettings, Frame, opening, frame}

-- `number` is 0 for a frame. Else it is the refusal's, all other numbers are 0, and no first sample and no rate is known.
-- `consumed` counts the frame's bytes.
pub record Report : Type 0 where
  pub number : ℕ
  pub consumed : ℕ
  -- None: the header gives a frame's number, and the size of the stream's blocks is unknown
  pub first : Option ℕ
  -- None: neither the frame's header nor the caller gives it
  pub rate : Option ℕ
  pub channels : ℕ
  pub bits : ℕ
  pub size : ℕ

unfoldable pub refusal : ℕ → Report
refusal n = record { number = n; consumed = 0; first = None; rate = None; channels = 0; bits = 0; size = 0 }

unfoldable pub accepted : Settings → FrameHeader → Place → Report
accepted given h end = record {
  number = 0;
  consumed = end.byte;
  first = first_sample given.block h.time;
  rate = h.rate;
  channels = channel_count h.channels;
  bits = h.bits;
  size = h.size;
}

-- the report, and the first of the lent samples afterwards; the samples after those are untouched
pub record Result : Type 0 where
  pub report : Report
  pub front : List ℤ

unfoldable pub untouched : ℕ → Result
untouched n = record { report = refusal n; front = [] }

unfoldable pub zeroed : ℕ → FrameHeader → Result
zeroed n h = record { report = refusal n; front = replicate (sample_count h) (pos 0) }

-- 1 if no byte is left, 2 if the input ends within a frame
unfoldable pub cut_short : List ℕ → ℕ
cut_short [] = 1
cut_short (b ∷ bytes) = 2

-- The subframes have begun once the first bit of the first one is read. From there on a refusal leaves zeros.
unfoldable pub begun : ReaderSettings → Ask FrameHeader
begun set = do
  h ← opening set
  bit ← bits 1
  done h

-- the result where the subframes have begun
unfoldable pub finished : Settings → FrameHeader → At Frame → Result
finished given h (got_at f end) = record { report = accepted given f.header end; front = f.samples }
finished given h (refused_at n) = zeroed n h
finished given h short_at = zeroed 2 h

unfoldable pub result_of : Settings → List ℕ → At FrameHeader → At Frame → Result
result_of given bytes (got_at h at) whole = finished given h whole
result_of given bytes (refused_at n) whole = untouched n
result_of given bytes short_at whole = untouched (cut_short bytes)

unfoldable pub result : ReaderSettings → List ℕ → Result
result set bytes = result_of set.given bytes (run_at (begun set) bytes (place_of 0)) (run_at (frame set) bytes (place_of 0))

pub record Outcome : Type 0 where
  pub report : Report
  pub buffer : List ℤ

-- THE READER: what reading some bytes into a buffer reports, and the buffer afterwards.
unfoldable pub read : Settings → List ℕ → List ℤ → Outcome
read given bytes buffer =
    let r = result (record { given = given; room = length buffer }) bytes in
    record { report = r.report; buffer = r.front ++ drop (length r.front) buffer }
