-- What each exported function promises: the number that it returns, and the value that each reference points to
-- afterwards, are those of the definition. Each predicate is named after its function. It takes the arguments first,
-- then the results; `refusal` is the number returned, 0 if nothing was refused.
use Rattle.std.specs.Prelude.{ℕ, ◌+◌, ◌≡◌, Option, Some, None, List, eqb, ℤ, drop, if◌then◌else◌}
use Rattle.reading.specs.Places.{At, got_at, refused_at, short_at}
use Rattle.rfc9639.specs.declared.Settings.{Settings}
use Rattle.rfc9639.specs.declared.StreamInfo.{StreamInfo}
use Rattle.rfc9639.specs.declared.StreamRecord.{StreamRecord}
use Rattle.rfc9639.specs.Read.{Report, Outcome, read}
use Rattle.rfc9639.specs.FrameByFrame.{stream_settings}
use Rattle.rfc9639.specs.StreamHeader.{stream_header_of}
use Rattle.rfc9639.specs.Write.{Written, write}
use Rattle.frame_limits.specs.Longest.{longest_of}
use Rattle.block.specs.BlockAccess.{channel_of, sample_of, pair_of}
use Rattle.block.specs.Reports.{ChannelReport, SampleReport, PairReport, channel_report, sample_report, pair_report}

-- ---- what may be unknown, in two plain numbers: 1 and the number, or 0 and 0

abbrev pub flag_of : Option ℕ → ℕ
flag_of None = 0
flag_of (Some n) = 1

abbrev pub value_of : Option ℕ → ℕ
value_of None = 0
value_of (Some n) = n

-- The other way, for any flag: where it is 0 the value is passed over; a flag that is neither 0 nor 1 gives what no
-- stream has.
unfoldable pub given_of : {A : Type 0} → ℕ → A → A → Option A
given_of flag value impossible =
    if eqb flag 0 then None
    else if eqb flag 1 then Some value
    else Some impossible

-- no stream has blocks of no samples, nor samples of no bits
unfoldable pub block_of : ℕ → ℕ → Option ℕ
block_of given size = given_of given size 0

unfoldable pub record_of : ℕ → ℕ → ℕ → Option StreamRecord
record_of given bits rate = given_of given (record { bits = bits; rate = rate }) (record { bits = 0; rate = 0 })

-- the settings of version 2, which has no record, and those of version 3
unfoldable pub settings_of : ℕ → ℕ → Settings
settings_of given size = record { block = block_of given size; stream = None }

unfoldable pub settings_with : ℕ → ℕ → ℕ → ℕ → ℕ → Settings
settings_with given size streamed bits rate = record { block = block_of given size; stream = record_of streamed bits rate }

-- ---- reading

-- what is returned for a report, but for the flag of the first sample and the rate
pub record ReadNumbers : Type 0 where
  pub refusal : ℕ
  pub consumed : ℕ
  pub first : ℕ
  pub channels : ℕ
  pub bits : ℕ
  pub size : ℕ

abbrev pub numbers_of : Report → ReadNumbers
numbers_of q = record {
  refusal = q.number;
  consumed = q.consumed;
  first = value_of q.first;
  channels = q.channels;
  bits = q.bits;
  size = q.size;
}

-- the numbers returned, and the samples left, are those of an outcome
pub record Returned (o : Outcome) (refusal consumed first channels bits size : ℕ) (left : List ℤ) : Type 0 where
  pub numbers : ◌≡◌ {A = ReadNumbers}
      (record { refusal = refusal; consumed = consumed; first = first; channels = channels; bits = bits; size = size })
      (numbers_of o.report)
  pub samples : left ≡ o.buffer

-- the frame's own block size is taken for the stream's, as in document 01
abbrev pub ReadFrameV1 : List ℕ → List ℤ → ℕ → ℕ → ℕ → ℕ → ℕ → ℕ → List ℤ → Type 0
ReadFrameV1 bytes samples refusal consumed first channels bits size left =
    Returned (read (stream_settings bytes) bytes samples) refusal consumed first channels bits size left

-- the bytes from the place on are read, and the place moves by those consumed; a refusal consumes none
pub record ReadNextV1 (bytes : List ℕ) (place : ℕ) (samples : List ℤ) (refusal next consumed first channels bits size : ℕ) (left : List ℤ) : Type 0 where
  pub answer : ReadFrameV1 (drop place bytes) samples refusal consumed first channels bits size left
  pub moved : next ≡ place + consumed

pub record ReadFrameV2 (bytes : List ℕ) (given block : ℕ) (samples : List ℤ) (refusal consumed known first channels bits size : ℕ) (left : List ℤ) : Type 0 where
  pub answer : Returned (read (settings_of given block) bytes samples) refusal consumed first channels bits size left
  pub flag : known ≡ flag_of (read (settings_of given block) bytes samples).report.first

pub record ReadNextV2 (bytes : List ℕ) (place given block : ℕ) (samples : List ℤ) (refusal next consumed known first channels bits size : ℕ) (left : List ℤ) : Type 0 where
  pub frame : ReadFrameV2 (drop place bytes) given block samples refusal consumed known first channels bits size left
  pub moved : next ≡ place + consumed

pub record ReadFrameV3 (bytes : List ℕ) (set : Settings) (samples : List ℤ) (refusal consumed known first rated rate channels bits size : ℕ) (left : List ℤ) : Type 0 where
  pub answer : Returned (read set bytes samples) refusal consumed first channels bits size left
  pub flag : known ≡ flag_of (read set bytes samples).report.first
  pub rate-flag : rated ≡ flag_of (read set bytes samples).report.rate
  pub hertz : rate ≡ value_of (read set bytes samples).report.rate

pub record ReadNextV3 (bytes : List ℕ) (place : ℕ) (set : Settings) (samples : List ℤ) (refusal next consumed known first rated rate channels bits size : ℕ) (left : List ℤ) : Type 0 where
  pub frame : ReadFrameV3 (drop place bytes) set samples refusal consumed known first rated rate channels bits size left
  pub moved : next ≡ place + consumed

pub record StreamBlockV1 (bytes : List ℕ) (known block : ℕ) : Type 0 where
  pub flag : known ≡ flag_of (stream_settings bytes).block
  pub size : block ≡ value_of (stream_settings bytes).block

-- ---- the stream header

-- what is returned for a stream header
pub record StreamNumbers : Type 0 where
  pub refusal : ℕ
  pub consumed : ℕ
  pub smallest : ℕ
  pub largest : ℕ
  pub shortest : ℕ
  pub longest : ℕ
  pub rate : ℕ
  pub channels : ℕ
  pub bits : ℕ
  pub samples : ℕ
  pub high : ℕ
  pub low : ℕ

abbrev pub no_stream : ℕ → StreamNumbers
no_stream n = record {
  refusal = n;
  consumed = 0;
  smallest = 0;
  largest = 0;
  shortest = 0;
  longest = 0;
  rate = 0;
  channels = 0;
  bits = 0;
  samples = 0;
  high = 0;
  low = 0;
}

-- an input that ends within the header, an empty one too, is refused 2
abbrev pub stream_numbers : At StreamInfo → StreamNumbers
stream_numbers (got_at info end) = record {
  refusal = 0;
  consumed = end.byte;
  smallest = info.blocks.smallest;
  largest = info.blocks.largest;
  shortest = info.frames.smallest;
  longest = info.frames.largest;
  rate = info.rate;
  channels = info.channels;
  bits = info.bits;
  samples = info.samples;
  high = info.md5.high;
  low = info.md5.low;
}
stream_numbers (refused_at n) = no_stream n
stream_numbers short_at = no_stream 2

abbrev pub StreamHeaderV1 : List ℕ → ℕ → ℕ → ℕ → ℕ → ℕ → ℕ → ℕ → ℕ → ℕ → ℕ → ℕ → ℕ → Type 0
StreamHeaderV1 bytes refusal consumed smallest largest shortest longest rate channels bits samples high low =
    ◌≡◌ {A = StreamNumbers}
    (record {
      refusal = refusal;
      consumed = consumed;
      smallest = smallest;
      largest = largest;
      shortest = shortest;
      longest = longest;
      rate = rate;
      channels = channels;
      bits = bits;
      samples = samples;
      high = high;
      low = low;
    })
    (stream_numbers (stream_header_of bytes))

-- ---- writing

abbrev pub WriteFrameV1 : ℕ → ℕ → ℕ → ℕ → ℕ → List ℤ → List ℕ → ℕ → ℕ → List ℕ → Type 0
WriteFrameV1 channels bits blocking number size samples out refusal length left =
    ◌≡◌ {A = Written} (record { number = refusal; length = length; output = left })
    (write (record { channels = channels; bits = bits; blocking = blocking; number = number; size = size }) samples out)

abbrev pub LongestV1 : ℕ → ℕ → ℕ → ℕ → ℕ → ℕ → Type 0
LongestV1 channels bits blocking number size length =
    length ≡ longest_of (record { channels = channels; bits = bits; blocking = blocking; number = number; size = size })

-- ---- a block's samples

-- `count` is the number of samples lent
abbrev pub ChannelV1 : ℕ → ℕ → ℕ → ℕ → ℕ → ℕ → ℕ → Type 0
ChannelV1 count channels size channel refusal start end =
    ◌≡◌ {A = ChannelReport} (record { number = refusal; start = start; end = end })
    (channel_report (channel_of count (record { channels = channels; size = size }) channel))

abbrev pub SampleV1 : List ℤ → ℕ → ℕ → ℕ → ℕ → ℕ → ℤ → Type 0
SampleV1 samples channels size channel index refusal value =
    ◌≡◌ {A = SampleReport} (record { number = refusal; value = value })
    (sample_report (sample_of samples (record { channels = channels; size = size }) channel index))

abbrev pub PairV1 : List ℤ → ℕ → ℕ → ℕ → ℕ → ℤ → ℤ → Type 0
PairV1 samples channels size index refusal left right =
    ◌≡◌ {A = PairReport} (record { number = refusal; left = left; right = right })
    (pair_report (pair_of samples (record { channels = channels; size = size }) index))
