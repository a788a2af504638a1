-- A whole input, frame by frame: the list of answers, up to and including the refusal that ends it. `answers` holds for
-- any function `one` that reads one frame, so it knows no setting of the reader.
use Rattle.std.specs.Prelude.{ℕ, zero, suc, Option, Some, None, List, [], ◌∷◌, length, drop}
use Rattle.reading.specs.Places.{At, got_at, refused_at, short_at, run_at, place_of}
use Rattle.rfc9639.specs.declared.FrameHeader.{FrameHeader}
use Rattle.rfc9639.specs.declared.Settings.{Settings}
use Rattle.rfc9639.specs.Header.{header}
use Rattle.rfc9639.specs.Read.{Result}

-- What an answer is, by its number: 0 is a frame; 1 and 2 may change with more bytes; more bytes never change the
-- others.
pub data Verdict : Type 0 where
  accept undecided refuse : Verdict

unfoldable pub verdict_of : ℕ → Verdict
verdict_of zero = accept
verdict_of (suc zero) = undecided
verdict_of (suc (suc zero)) = undecided
verdict_of (suc (suc (suc n))) = refuse

abbrev pub verdict : Result → Verdict
verdict r = verdict_of r.report.number

-- reading goes on after a frame, and ends after any other answer
unfoldable pub goes_on : Verdict → List Result → List Result
goes_on accept rest = rest
goes_on undecided rest = []
goes_on refuse rest = []

-- at most n answers
unfoldable pub answers_up_to : ℕ → (List ℕ → Result) → List ℕ → List Result
answers_up_to zero one s = []
answers_up_to (suc n) one s = one s ∷ goes_on (verdict (one s)) (answers_up_to n one (drop (one s).report.consumed s))

-- An accepted frame has at least one byte. So there are at most as many frames as bytes, and then one refusal.
unfoldable pub answers : (List ℕ → Result) → List ℕ → List Result
answers one s = answers_up_to (suc (length s)) one s

-- ---- a stream that is read from its first frame on

-- the block size in a header, if there is one
unfoldable pub block_in : At FrameHeader → Option ℕ
block_in (got_at h at) = Some h.size
block_in (refused_at n) = None
block_in short_at = None

-- What a stream without a stream header says about itself: the size of its blocks is that of the first, whatever the
-- blocking.
unfoldable pub stream_settings : List ℕ → Settings
stream_settings s = record { block = block_in (run_at header s (place_of 0)); stream = None }
