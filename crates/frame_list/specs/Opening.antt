-- The start of a card: where its stream header ends. The card may be longer than the window, and so may its header: each
-- promise is about all of the card's bytes, those before the window, those in it and those that follow.
use Rattle.std.specs.Prelude.{ℕ, ◌+◌, ◌-◌, ◌^◌, ◌≤◌, ◌<◌, min, Bool, true, false, ◌⊎◌, ◌≡◌, Option, None, Some, Result, Ok, Err, List, ◌++◌, eqb, length, take, drop, if◌then◌else◌}
use Rattle.std.specs.declared.ops.ControlFlow.{ControlFlow}
use Rattle.std.specs.declared.ops.ControlFlow.TheVariants.{Continue, Break}
use Rattle.reading.specs.Readers.{Ask, done}
use Rattle.reading.specs.declared.Place.{Place}
use Rattle.reading.specs.Places.{At, got_at, refused_at, short_at, run_at, place_of}
use Rattle.error.specs.declared.Refusal.{Refusal}
use Rattle.error.specs.Numbers.{number_of}
use Rattle.rfc9639.specs.declared.StreamInfo.{StreamInfo}
use Rattle.rfc9639.specs.StreamHeader.{block_head, skipped_blocks, stream_start, stream_header_of}
use Rattle.frame_list.specs.declared.Totals.{Totals}
use Rattle.frame_list.specs.declared.Card.{Card}
use Rattle.frame_list.specs.declared.How.{How}
use Rattle.frame_list.specs.declared.Last.{Last}
use Rattle.frame_list.specs.declared.opening.Skip.{Skip}
use Rattle.frame_list.specs.declared.opening.Passed.{Passed}
use Rattle.frame_list.specs.declared.opening.Start.{Start}
use Rattle.frame_list.specs.declared.opening.Look.{Look}
use Rattle.frame_list.specs.declared.opening.Opening.{Opening}
use Rattle.frame_list.specs.CardProgress.{Sound, no_frames, pending, Continues, Closes}

-- ---- what a stream header tells of the frames after it

-- a rate of 0 tells nothing
abbrev pub told : StreamInfo → Totals
told info = record {
  frames = 0;
  samples = 0;
  length = 0;
  rate = if eqb info.rate 0 then None else Some info.rate;
  block = None;
  stream = Some (record { bits = info.bits; rate = info.rate });
}

-- ---- the metadata blocks after the first

-- the start of a byte
abbrev pub byte_at : ℕ → Place
byte_at n = record { byte = n; bit = 0 }

-- what follows a metadata block: the frames, or at most n more blocks
unfoldable pub blocks_after : Bool → ℕ → Ask (Unit {0})
blocks_after last n = if last then done tt else skipped_blocks n

-- what a card has from a byte on: its last blocks, or nothing more, if the last block ends there
unfoldable pub blocks_from : Bool → List ℕ → ℕ → At (Unit {0})
blocks_from last s n = run_at (blocks_after last (length s)) s (byte_at n)

-- Some of a card's bytes are in a window, after the bytes u. The heads in the window lead from a place to another, where
-- there is no head any more.
pub record HopsTo (w : List ℕ) (from : ℕ) (was : Bool) (to : ℕ) (last : Bool) : Type 0 where
  pub same : (u more : List ℕ) → 0 < length u + from → blocks_from was (u ++ (w ++ more)) (length u + from) ≡ blocks_from last (u ++ (w ++ more)) (length u + to)
  pub no_head : last ≡ false → run_at block_head w (byte_at to) ≡ short_at
  pub forth : from ≤ to

abbrev pub Hops : List ℕ → ℕ → Bool → Result (ℕ × Bool) Refusal → Type 0
Hops w from was (Ok (to, last)) = HopsTo w from was to last
Hops w from was (Err e) = (u more : List ℕ) → 0 < length u + from → blocks_from was (u ++ (w ++ more)) (length u + from) ≡ refused_at (number_of e)

-- ---- the window moves on, as far as it goes, to a place that may be past it

pub record Refilled (was : List ℕ) (card : Card) (pass : ℕ) (last : Bool) (next : Skip) (left : List ℕ) : Type 0 where
  pub goes : Continues was card (min pass card.held) next.card left
  pub same_place : next.pass ≡ pass - min pass card.held
  pub same-last : next.last ≡ last

abbrev pub Moves : List ℕ → Card → ℕ → Bool → ControlFlow Last Skip → List ℕ → Type 0
Moves was card pass last (Continue next) left = Refilled was card pass last next left
Moves was card pass last (Break end) left = Closes card (min pass card.held) Refusal.CutShort end

-- or to a place in it
pub record Moved (was : List ℕ) (card : Card) (pass : ℕ) (next : Card) (left : List ℕ) : Type 0 where
  pub kept : take (card.held - pass) left ≡ take (card.held - pass) (drop pass was)
  pub fits : pass ≤ card.held
  pub next-held : next.held ≡ card.held - pass
  pub next_base : next.base ≡ card.base + pass
  pub same-totals : next.totals ≡ card.totals
  pub sound : Sound next (length was)

abbrev pub Arrives : List ℕ → Card → ℕ → ControlFlow Last Card → List ℕ → Type 0
Arrives was card pass (Continue next) left = Moved was card pass next left
Arrives was card pass (Break end) left = end ≡ record { card = card; place = pass; how = How.TooFar }

-- which of the two: if the card ends, its first frame is not reached
abbrev pub Lacking : Card → ℕ → Bool → How → Type 0
Lacking card pass last (How.Ended e) = last ≡ true → card.held < pass
Lacking card pass last (How.Refused e) = ⊥
Lacking card pass last (How.Unread error) = Unit {0}
Lacking card pass last How.TooLong = Unit {0}
Lacking card pass last How.TooFar = Unit {0}

pub record Stuck (card : Card) (pass : ℕ) (last : Bool) (end : Last) : Type 0 where
  pub same_card : end.card ≡ card
  pub place-fits : end.place ≤ card.held
  pub how : Lacking card pass last end.how

abbrev pub Passes : List ℕ → Card → ℕ → Bool → ControlFlow Last Passed → List ℕ → Type 0
Passes was card pass last (Continue (Passed.On next)) left = Refilled was card pass last next left
Passes was card pass last (Continue (Passed.Frames next)) left = (last ≡ true) × Moved was card pass next left
Passes was card pass last (Break end) left = Stuck card pass last end

-- ---- one look at the window, and all of them

-- What the end of a run says about what is found on the card, if these are the bytes so far: if the card ends there, it
-- is cut short; after a refusal, it is refused whatever follows.
abbrev pub Tells : {A : Type 0} → (List ℕ → At A) → List ℕ → How → Type 0
Tells found s (How.Ended e) = found s ≡ short_at
Tells found s (How.Refused e) = (more : List ℕ) → found (s ++ more) ≡ refused_at (number_of e)
Tells found s (How.Unread error) = Unit {0}
Tells found s How.TooLong = Unit {0}
Tells found s How.TooFar = Unit {0}

pub record GoesOn (was : List ℕ) (skip next : Skip) (left : List ℕ) : Type 0 where
  pub to : ℕ
  pub last : Bool
  pub hops : HopsTo (take skip.card.held was) skip.pass skip.last to last
  pub moves : Refilled was skip.card to last next left

pub record ToFrames (was : List ℕ) (skip : Skip) (next : Card) (left : List ℕ) : Type 0 where
  pub to : ℕ
  pub hops : HopsTo (take skip.card.held was) skip.pass skip.last to true
  pub moves : Moved was skip.card to next left

pub record Ends (was : List ℕ) (skip : Skip) (end : Last) : Type 0 where
  pub same_card : end.card ≡ skip.card
  pub place-fits : end.place ≤ skip.card.held
  pub tells : (u : List ℕ) → 0 < length u + skip.pass → Tells (λ s. blocks_from skip.last s (length u + skip.pass)) (u ++ take skip.card.held was) end.how

abbrev pub SkipTurns : List ℕ → Skip → ControlFlow Last Passed → List ℕ → Type 0
SkipTurns was skip (Continue (Passed.On next)) left = GoesOn was skip next left
SkipTurns was skip (Continue (Passed.Frames next)) left = ToFrames was skip next left
SkipTurns was skip (Break end) left = Ends was skip end

-- A card whose first bytes are `first`: `head` stands before the window in the end, and what the window holds after it.
pub record SkipsAll (first : List ℕ) (start : Skip) (next : Card) (left : List ℕ) : Type 0 where
  pub head : List ℕ
  pub added : List ℕ
  pub long : length head ≡ next.base
  pub joined : head ++ take next.held left ≡ first ++ added
  pub all : (more : List ℕ) → blocks_from start.last (first ++ (added ++ more)) start.pass ≡ got_at tt (byte_at next.base)
  pub sound : Sound next (length left)

pub record SkipsTo (first : List ℕ) (start : Skip) (end : Last) : Type 0 where
  pub added : List ℕ
  pub tells : Tells (λ s. blocks_from start.last s start.pass) (first ++ added) end.how
  pub numbered : end.card.base + end.card.held < 2 ^ 64
  pub place-fits : end.place ≤ end.card.held

abbrev pub Skips : List ℕ → Skip → ControlFlow Last Card → List ℕ → Type 0
Skips first start (Continue next) left = SkipsAll first start next left
Skips first start (Break end) left = SkipsTo first start end

-- ---- the card's first bytes

abbrev pub Waits : List ℕ → Card → ControlFlow Last Look → List ℕ → Type 0
Waits was card (Continue (Look.On next)) left = Continues was card 0 next left
Waits was card (Continue (Look.At (Start.Bare next))) left = (next ≡ card) × (left ≡ was) × (card.held < 4) × (pending card.rest ≡ 0)
Waits was card (Continue (Look.At (Start.Header info skip))) left = ⊥
Waits was card (Break end) left = Closes card 0 Refusal.CutShort end

-- how the run may end in this window, by the refusal of the mark and STREAMINFO
abbrev pub Refusing : Refusal → How → Type 0
Refusing e (How.Ended x) = number_of e ≡ 2
Refusing e (How.Refused x) = (x ≡ e) × (number_of e ≡ 2 → ⊥)
Refusing e (How.Unread error) = Unit {0}
Refusing e How.TooLong = Unit {0}
Refusing e How.TooFar = Unit {0}

pub record Unfound (card : Card) (e : Refusal) (end : Last) : Type 0 where
  pub same_card : end.card ≡ card
  pub same_place : end.place ≡ 0
  pub how : Refusing e end.how

abbrev pub Unstarted : List ℕ → Card → Refusal → ControlFlow Last Look → List ℕ → Type 0
Unstarted was card e (Continue (Look.On next)) left = Continues was card 0 next left
Unstarted was card e (Continue (Look.At (Start.Bare next))) left = (next ≡ card) × (left ≡ was) × ((number_of e ≡ 3) ⊎ ((card.held < 4) × (pending card.rest ≡ 0)))
Unstarted was card e (Continue (Look.At (Start.Header info skip))) left = ⊥
Unstarted was card e (Break end) left = Unfound card e end

-- A card without a stream header: its first bytes are no mark, whatever follows them; or there are fewer than four, and no
-- more can be read.
abbrev pub Unmarked : Card → List ℕ → Type 0
Unmarked card s = ((more : List ℕ) → stream_header_of (s ++ more) ≡ refused_at 3) ⊎ ((card.held < 4) × (pending card.rest ≡ 0))

-- a start that is found in these bytes
pub record Found (s : List ℕ) (card : Card) (info : StreamInfo) (skip : Skip) : Type 0 where
  pub same_card : skip.card ≡ card
  pub start : run_at stream_start s (place_of 0) ≡ got_at (skip.last, info) (byte_at skip.pass)

pub record NotFound (s : List ℕ) (card : Card) (end : Last) : Type 0 where
  pub same_card : end.card ≡ card
  pub same_place : end.place ≡ 0
  pub tells : Tells stream_header_of s end.how

abbrev pub StartTurns : List ℕ → Card → ControlFlow Last Look → List ℕ → Type 0
StartTurns was card (Continue (Look.On next)) left = Continues was card 0 next left
StartTurns was card (Continue (Look.At (Start.Bare next))) left = (next ≡ card) × (left ≡ was) × Unmarked card (take card.held was)
StartTurns was card (Continue (Look.At (Start.Header info skip))) left = (left ≡ was) × Found (take card.held was) card info skip
StartTurns was card (Break end) left = NotFound (take card.held was) card end

-- ---- the whole

-- the card from its first byte on
pub record Bare (card : Card) (width : ℕ) : Type 0 where
  pub no_base : card.base ≡ 0
  pub none : card.totals ≡ no_frames
  pub sound : Sound card width

pub record Headed (info : StreamInfo) (skip : Skip) (left : List ℕ) : Type 0 where
  pub bare : Bare skip.card (length left)
  pub start : run_at stream_start (take skip.card.held left) (place_of 0) ≡ got_at (skip.last, info) (byte_at skip.pass)

-- the run ends in the stream header
pub record HeaderOver (end : Last) : Type 0 where
  pub seen : List ℕ
  pub tells : Tells stream_header_of seen end.how
  pub numbered : end.card.base + end.card.held < 2 ^ 64
  pub place-fits : end.place ≤ end.card.held

abbrev pub Starts : List ℕ → ControlFlow Last Start → Type 0
Starts left (Continue (Start.Bare card)) = Bare card (length left) × Unmarked card (take card.held left)
Starts left (Continue (Start.Header info skip)) = Headed info skip left
Starts left (Break end) = HeaderOver end

-- The stream header is that of all the card's bytes, those before the window among them. It ends where the window starts,
-- and the frames are read with what it tells.
pub record Stream (info : StreamInfo) (card : Card) (left : List ℕ) : Type 0 where
  pub head : List ℕ
  pub long : length head ≡ card.base
  pub all : (more : List ℕ) → stream_header_of (head ++ (take card.held left ++ more)) ≡ got_at info (byte_at card.base)
  pub tells : card.totals ≡ told info
  pub sound : Sound card (length left)

-- where the frames start, after a stream header or not
abbrev pub Begins : Option StreamInfo → Card → List ℕ → Type 0
Begins None card left = Bare card (length left) × Unmarked card (take card.held left)
Begins (Some info) card left = Stream info card left

abbrev pub Opens : List ℕ → ControlFlow Last Opening → Type 0
Opens left (Continue o) = Begins o.header o.card left
Opens left (Break end) = HeaderOver end
