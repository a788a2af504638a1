-- How far a card has been read. Each turn, one pass over the window, reads further, and does not change what is listed
-- of the card as a whole.
use Rattle.std.specs.Prelude.{ℕ, ◌+◌, ◌-◌, ◌*◌, ◌^◌, ◌≤◌, ◌<◌, None, true, ◌≡◌, List, ◌++◌, length, take, drop}
use Rattle.std.specs.declared.ops.ControlFlow.{ControlFlow}
use Rattle.std.specs.declared.ops.ControlFlow.TheVariants.{Continue, Break}
use Rattle.error.specs.declared.Refusal.{Refusal}
use Rattle.error.specs.Numbers.{number_of}
use Rattle.rfc9639.specs.Stream.{bits_in_range}
use Rattle.frame_list.specs.declared.window.Rest.{Rest}
use Rattle.frame_list.specs.declared.Totals.{Totals}
use Rattle.frame_list.specs.declared.Card.{Card}
use Rattle.frame_list.specs.declared.How.{How}
use Rattle.frame_list.specs.declared.Last.{Last}
use Rattle.frame_list.specs.Listing.{Listing, listed}

-- the bytes held fit the window, 64 bits can number every place of the window on the card, and a stream can have the bits
-- that the stream header gives
pub record Sound (card : Card) (room : ℕ) : Type 0 where
  pub held_fits : card.held ≤ room
  pub numbered : card.base + room < 2 ^ 64
  pub bits : bits_in_range card.totals.stream ≡ true

-- before the card's first frame, if it has no stream header
abbrev pub no_frames : Totals
no_frames = record { frames = 0; samples = 0; length = 0; rate = None; block = None; stream = None }

-- 1 if there may be more of the card to read
abbrev pub pending : Rest → ℕ
pending Rest.More = 1
pending Rest.Ended = 0
pending (Rest.Failed error) = 0

-- how much may still be read: it falls with each turn, since a turn reads a byte or finds that there are no more
abbrev pub ahead : Card → ℕ
ahead card = (2 ^ 64 - (card.base + card.held)) * 2 + pending card.rest

-- ---- the window's bytes

-- After a refill the window starts at the place where reading stopped: the bytes from there on are at its front.
pub record Continues (was : List ℕ) (card : Card) (place : ℕ) (next : Card) (left : List ℕ) : Type 0 where
  pub kept : take (card.held - place) left ≡ take (card.held - place) (drop place was)
  pub least : card.held - place ≤ next.held
  pub next_base : next.base ≡ card.base + place
  pub same-totals : next.totals ≡ card.totals
  pub sound : Sound next (length was)
  pub further : ahead next < ahead card

-- how a run may end for lack of bytes: with this refusal, if the card ends
abbrev pub Wanting : Refusal → How → Type 0
Wanting e (How.Ended x) = x ≡ e
Wanting e (How.Refused x) = ⊥
Wanting e (How.Unread error) = Unit {0}
Wanting e How.TooLong = Unit {0}
Wanting e How.TooFar = Unit {0}

pub record Closes (c : Card) (at : ℕ) (e : Refusal) (last : Last) : Type 0 where
  pub same_card : last.card ≡ c
  pub same_place : last.place ≡ at
  pub how : Wanting e last.how

-- the window is full: the run goes on with it if the card ends there, and is over if there is more
abbrev pub Stays : Card → ℕ → ControlFlow Last Card → Type 0
Stays card place (Continue next) =
    (next.base ≡ card.base) × (next.held ≡ card.held) × (next.totals ≡ card.totals) × (pending next.rest ≡ 0)
Stays card place (Break last) = last ≡ record { card = card; place = place; how = How.TooLong }

abbrev pub Refills : List ℕ → Card → ℕ → Refusal → ControlFlow Last Card → List ℕ → Type 0
Refills was card place e (Continue next) left = Continues was card place next left
Refills was card place e (Break last) left = Closes card place e last

-- ---- what is listed

-- A turn that goes on has read some bytes. Whatever follows them, the rest of the list is unchanged.
pub record Carries (room : ℕ) (was : List ℕ) (card next : Card) (left : List ℕ) : Type 0 where
  pub added : List ℕ
  pub long : next.base + next.held ≡ card.base + card.held + length added
  pub same : (more : List ℕ)
      → listed room card.base card.totals (take card.held was ++ (added ++ more))
      ≡ listed room next.base next.totals (take next.held left ++ more)
  pub sound : Sound next (length was)
  pub further : ahead next < ahead card

-- what is listed by a run that ends with a refusal
abbrev pub ending : Last → Refusal → Listing
ending last e = record { place = last.card.base + last.place; totals = last.card.totals; number = number_of e }

-- the frames up to the run's end are listed, and others may follow
pub record Unfinished (room place : ℕ) (t : Totals) (s : List ℕ) (last : Last) : Type 0 where
  pub rest : List ℕ
  pub same : (more : List ℕ) → listed room place t (s ++ more) ≡ listed room (last.card.base + last.place) last.card.totals (rest ++ more)

-- What the run's end says about the bytes from a place of the card on. If the card ends after them, this is all that is
-- listed of it; after a refusal, it is so whatever follows; otherwise nothing was left out so far.
abbrev pub Accounts : ℕ → ℕ → Totals → List ℕ → Last → How → Type 0
Accounts room place t s last (How.Ended e) = listed room place t s ≡ ending last e
Accounts room place t s last (How.Refused e) = (more : List ℕ) → listed room place t (s ++ more) ≡ ending last e
Accounts room place t s last (How.Unread error) = Unfinished room place t s last
Accounts room place t s last How.TooLong = Unfinished room place t s last
Accounts room place t s last How.TooFar = Unfinished room place t s last

-- A turn that ends the run ends it in this window.
pub record Stops (room : ℕ) (was : List ℕ) (card : Card) (last : Last) : Type 0 where
  pub same_base : last.card.base ≡ card.base
  pub same-held : last.card.held ≡ card.held
  pub place-fits : last.place ≤ card.held
  pub accounts : Accounts room card.base card.totals (take card.held was) last last.how

abbrev pub Turns : ℕ → List ℕ → Card → ControlFlow Last Card → List ℕ → Type 0
Turns room was card (Continue next) left = Carries room was card next left
Turns room was card (Break last) left = Stops room was card last

-- The whole run from a start, whose window holds the first bytes: its end is right about all the bytes that were read.
pub record Runs (room : ℕ) (start : Card) (first : List ℕ) (last : Last) : Type 0 where
  pub added : List ℕ
  pub long : start.base + length (first ++ added) ≡ last.card.base + last.card.held
  pub accounts : Accounts room start.base start.totals (first ++ added) last last.how
  pub numbered : last.card.base + last.card.held < 2 ^ 64
  pub place-fits : last.place ≤ last.card.held
