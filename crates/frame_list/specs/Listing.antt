-- What is listed of a card: its frames up to the first refusal, by the definition's answers to all of its bytes.
use Rattle.std.specs.Prelude.{ℕ, ◌+◌, ◌*◌, ◌≤◌, min, ◌≡◌, Option, List, [], ◌∷◌, eqb, length, if◌then◌else◌}
use Rattle.std.specs.Option.{option_or}
use Rattle.error.specs.Numbers.{number_of}
use Rattle.rfc9639.specs.Read.{Result, result}
use Rattle.rfc9639.specs.declared.Settings.{Settings}
use Rattle.rfc9639.specs.FrameByFrame.{answers, stream_settings}
use Rattle.frame_list.specs.declared.Totals.{Totals}
use Rattle.frame_list.specs.declared.Listed.{Listed}

-- the largest number of 64 bits, or n if that is less
abbrev pub capped : ℕ → ℕ
capped n = min n 18446744073709551615

-- the totals with one more frame; the sample rate is as it is known, or else the frame's
abbrev pub with_frame : Totals → ℕ → ℕ → Option ℕ → Totals
with_frame t channels size rate = record {
  frames = capped (t.frames + 1);
  samples = capped (t.samples + channels * size);
  length = capped (t.length + size);
  rate = option_or t.rate rate;
  block = t.block;
  stream = t.stream;
}

-- the size of the stream's blocks: as it is known, or that of the first, if some bytes are the first of the stream
abbrev pub block_for : Option ℕ → List ℕ → Option ℕ
block_for known s = option_or known (stream_settings s).block

-- the totals with that size
abbrev pub with_block : Totals → Option ℕ → Totals
with_block t block = record { frames = t.frames; samples = t.samples; length = t.length; rate = t.rate; block = block; stream = t.stream }

abbrev pub settled : Totals → List ℕ → Totals
settled t s = with_block t (block_for t.block s)

-- The place on the card after the frames, their totals, and the number of the refusal there.
pub record Listing : Type 0 where
  pub place : ℕ
  pub totals : Totals
  pub number : ℕ

-- what is listed by a list of answers, given the totals up to a place
unfoldable pub listing : ℕ → Totals → List Result → Listing
listing place t [] = record { place = place; totals = t; number = 0 }
listing place t (q ∷ qs) =
    if eqb q.report.number 0 then listing (place + q.report.consumed) (with_frame t q.report.channels q.report.size q.report.rate) qs
    else record { place = place; totals = t; number = q.report.number }

-- what is listed of the bytes from a place of the card on, under these settings and with room for that many samples
abbrev pub listed_as : Settings → ℕ → ℕ → Totals → List ℕ → Listing
listed_as set room place t s = listing place t (answers (result (record { given = set; room = room })) s)

-- the settings of the stream: by its first frame, and by its stream header
abbrev pub settings_for : Totals → List ℕ → Settings
settings_for t s = record { block = block_for t.block s; stream = t.stream }

-- what is listed of the card from a place on, under those settings
abbrev pub listed : ℕ → ℕ → Totals → List ℕ → Listing
listed room place t s = listed_as (settings_for t s) room place (settled t s) s

-- The frames of some bytes, the first of which is at `base` on the card.
pub record Lists (s : List ℕ) (base : ℕ) (before : Totals) (room : ℕ) (r : Listed) : Type 0 where
  pub place-fits : r.place ≤ length s
  pub all : listed room base before s ≡ record { place = base + r.place; totals = r.totals; number = number_of r.refusal }
