-- Turns: each one reads further, and what is listed of the card stays the same. Assumes nothing.
use Prim.Native.Nat.{ℕ, ◌+◌, ◌-◌, ◌≤◌}
use native.Mathlib.Omega.{arith}
use mathlib.Core.Path.{◌≡◌, refl, ap, ap₂, sym, ◌∙◌}
use mathlib.Core.List.{List, [], ◌++◌, append_assoc, append-nil}
use lib.ListN.{length, take, drop, length-append, length-drop, take-append-drop}
use lib.Seq.{take-take, length-take-le, take-add, drop_at}
use Rattle.std.specs.declared.ops.ControlFlow.{ControlFlow}
use Rattle.std.specs.declared.ops.ControlFlow.TheVariants.{Continue, Break}
use Rattle.error.specs.declared.Refusal.{Refusal}
use Rattle.error.specs.declared.Refusal.TheVariants.{NothingLeft, CutShort, NotSync, Reserved, BadNumber, HeaderSum, NoRoom, NotDone, BadShape, FrameSum, BadArgument, SampleRange, OutputRoom}
use Rattle.error.specs.declared.Need.{Need}
use Rattle.error.specs.Numbers.{number_of}
use Rattle.error.specs.Needs.{needs_of}
use Rattle.rfc9639.specs.Stream.{bits_in_range}
use Rattle.rfc9639.specs.FrameByFrame.{Verdict, undecided, refuse, verdict_of}
use Rattle.frame_list.specs.declared.Totals.{Totals}
use Rattle.frame_list.specs.declared.Card.{Card}
use Rattle.frame_list.specs.declared.Listed.{Listed}
use Rattle.frame_list.specs.declared.How.{How}
use Rattle.frame_list.specs.declared.Last.{Last}
use Rattle.frame_list.specs.Listing.{Listing, listed, Lists}
use Rattle.frame_list.specs.CardProgress.{Sound, Continues, Wanting, Closes, Refills, Carries, Unfinished, Accounts, Stops, Turns, Runs}
use Rattle.frame_list.proofs.FirstFrame.{listed-stream, listed-goes_on, listed-stands}

-- ---- the window's bytes

drop_of_take : (k m : ℕ) (l : List ℕ) → k ≤ m → k ≤ length l → drop k (take m l) ≡ take (m - k) (drop k l)
drop_of_take k m l h g =
    let e : m ≡ k + (m - k) = omega arith in
    ap (λ n. drop k (take n l)) e ∙ ap (drop k) (take-add k (m - k) l) ∙ drop_at (take k l) (take (m - k) (drop k l)) k (length-take-le k l g)

-- the bytes held from a place on are where the window's bytes from its front on are kept
pub window-kept : (was left : List ℕ) (held place : ℕ) → held ≤ length was → place ≤ held → take (held - place) left ≡ take (held - place) (drop place was)
    → drop place (take held was) ≡ take (held - place) left
window-kept was left held place fits inside kept = drop_of_take place held was inside (omega arith) ∙ sym kept

module _ (was : List ℕ) (card : Card) (place : ℕ) (next : Card) (left : List ℕ) (c : Continues was card place next left) where
  -- what a refill read
  abbrev pub fresh : List ℕ
  fresh = drop (card.held - place) (take next.held left)

  pub window-joined : card.held ≤ length was → place ≤ card.held → drop place (take card.held was) ++ fresh ≡ take next.held left
  window-joined fits inside =
      ap (λ (l : List ℕ). l ++ fresh)
      (window-kept was left card.held place fits inside c.kept ∙ sym (take-take (card.held - place) next.held left c.least))
      ∙ take-append-drop (card.held - place) (take next.held left)

-- ---- what a refusal asks of the caller, as a verdict

unfoldable pub verdict_for : Need → Verdict
verdict_for Need.Wait = undecided
verdict_for Need.Room = refuse
verdict_for Need.Final = refuse

verdict-needs : (e : Refusal) → verdict_of (number_of e) ≡ verdict_for (needs_of e)
unfolding verdict_of verdict_for
verdict-needs NothingLeft = refl
verdict-needs CutShort = refl
verdict-needs NotSync = refl
verdict-needs Reserved = refl
verdict-needs BadNumber = refl
verdict-needs HeaderSum = refl
verdict-needs NoRoom = refl
verdict-needs NotDone = refl
verdict-needs BadShape = refl
verdict-needs FrameSum = refl
verdict-needs BadArgument = refl
verdict-needs SampleRange = refl
verdict-needs OutputRoom = refl

wait-undecided : (e : Refusal) → needs_of e ≡ Need.Wait → verdict_of (number_of e) ≡ undecided
unfolding verdict_for
wait-undecided e w = verdict-needs e ∙ ap verdict_for w

refuse_decided : (e : Refusal) (n : Need) → needs_of e ≡ n → verdict_for n ≡ refuse → verdict_of (number_of e) ≡ undecided → ⊥
refuse_decided e n is k u = let r = verdict-needs e ∙ ap verdict_for is ∙ k in let z : ◌≡◌ {A = ℕ} 0 1 = cc in omega arith

-- ---- what is listed

module _ (room : ℕ) (was : List ℕ) (card : Card) (r : Listed) (sound : Sound card (length was)) (lists : Lists (take card.held was) card.base card.totals room r) where
  abbrev w : List ℕ
  w = take card.held was

  -- the card with the window's frames counted
  abbrev read : Card
  read = record { base = card.base; held = card.held; rest = card.rest; totals = r.totals }

  pub read-sound : Sound read (length was)
  read-sound = record {
    held_fits = sound.held_fits;
    numbered = sound.numbered;
    bits = ap bits_in_range (listed-stream room card.base card.totals w r.place sound.bits lists.all) ∙ sound.bits;
  }

  pub listed-place-held : r.place ≤ card.held
  listed-place-held = omega (arith, lists.place-fits, length-take-le card.held was sound.held_fits)

  module _ (wait : needs_of r.refusal ≡ Need.Wait) where
    listed-from-place : (more : List ℕ) → listed room card.base card.totals (w ++ more) ≡ listed room (card.base + r.place) r.totals (drop r.place w ++ more)
    listed-from-place = listed-goes_on room card.base card.totals w r.place sound.bits lists.all (wait-undecided r.refusal wait)

    module _ (next : Card) (left : List ℕ) (long : length left ≡ length was) (c : Continues was read r.place next left) where
      abbrev added : List ℕ
      added = fresh was read r.place next left c

      joined : drop r.place w ++ added ≡ take next.held left
      joined = window-joined was read r.place next left c sound.held_fits listed-place-held

      carries : Carries room was card next left
      carries = record {
        added = added;
        long =
            omega (arith, c.next_base, c.least, listed-place-held, length-drop (card.held - r.place) (take next.held left), length-take-le next.held left (omega (arith, c.sound.held_fits)));
        same = λ more.
            listed-from-place (added ++ more)
            ∙ ap (λ (l : List ℕ). listed room (card.base + r.place) r.totals l) (sym (append_assoc (drop r.place w) added more) ∙ ap (λ (l : List ℕ). l ++ more) joined)
            ∙ ap₂ (λ b (t : Totals). listed room b t (take next.held left ++ more)) (sym c.next_base) (sym c.same-totals);
        sound = c.sound;
        further = c.further;
      }

    module _ (last : Last) (c : Closes read r.place r.refusal last) where
      same_end : (f : Card → ℕ → Listing) → f read r.place ≡ f last.card last.place
      same_end f = ap₂ f (sym c.same_card) (sym c.same_place)

      unfinished : Unfinished room card.base card.totals w last
      unfinished = record {
        rest = drop r.place w;
        same = λ more. listed-from-place more ∙ same_end (λ k p. listed room (k.base + p) k.totals (drop r.place w ++ more));
      }

      accounts_by_end : (how : How) → Wanting r.refusal how → Accounts room card.base card.totals w last how
      accounts_by_end (How.Ended x) e = lists.all ∙ ap (λ y. record { place = card.base + r.place; totals = r.totals; number = number_of y }) (sym e) ∙ same_end (λ k p. record { place = k.base + p; totals = k.totals; number = number_of x })
      accounts_by_end (How.Refused x) e = absurd e
      accounts_by_end (How.Unread error) e = unfinished
      accounts_by_end How.TooLong e = unfinished
      accounts_by_end How.TooFar e = unfinished

      stops : Stops room was card last
      stops = record {
        same_base = ap (λ (k : Card). k.base) c.same_card;
        same-held = ap (λ (k : Card). k.held) c.same_card;
        place-fits = omega (arith, c.same_place, listed-place-held);
        accounts = accounts_by_end last.how c.how;
      }

    pub turns : (left : List ℕ) → length left ≡ length was → (t : ControlFlow Last Card) → Refills was read r.place r.refusal t left → Turns room was card t left
    turns left long (Continue next) c = carries next left long c
    turns left long (Break last) c = stops last c

  pub refused-stops : (n : Need) → needs_of r.refusal ≡ n → verdict_for n ≡ refuse
      → Stops room was card (record { card = read; place = r.place; how = How.Refused r.refusal })
  refused-stops n is k = record {
    same_base = refl;
    same-held = refl;
    place-fits = listed-place-held;
    accounts = listed-stands room card.base card.totals w r.place sound.bits lists.all (refuse_decided r.refusal n is k);
  }

-- ---- from the start

-- the invariant: listing the bytes read so far, after a start whose window held the first of them, is listing the window,
-- with the totals before it
module _ (room : ℕ) (start : Card) (first : List ℕ) where
  pub record SoFar (w : List ℕ) (card : Card) : Type 0 where
    pub added : List ℕ
    pub long : start.base + length (first ++ added) ≡ card.base + card.held
    pub same : (more : List ℕ)
        → listed room start.base start.totals ((first ++ added) ++ more) ≡ listed room card.base card.totals (take card.held w ++ more)

  module _ (w : List ℕ) (card : Card) (far : SoFar w card) where
    abbrev seen : List ℕ
    seen = first ++ far.added

    -- a turn that goes on keeps it
    pub so_far_on : (next : Card) (left : List ℕ) → Carries room w card next left → SoFar left next
    so_far_on next left c =
        let e : first ++ (far.added ++ c.added) ≡ seen ++ c.added = sym (append_assoc first far.added c.added) in
        record {
          added = far.added ++ c.added;
          long = omega (arith, ap length e, length-append seen c.added, far.long, c.long);
          same = λ more.
              ap (λ (s : List ℕ). listed room start.base start.totals (s ++ more)) e
              ∙ ap (listed room start.base start.totals) (append_assoc seen c.added more) ∙ far.same (c.added ++ more) ∙ c.same more;
        }

    so_far-end : listed room start.base start.totals seen ≡ listed room card.base card.totals (take card.held w)
    so_far-end =
        ap (listed room start.base start.totals) (sym (append-nil seen)) ∙ far.same []
        ∙ ap (listed room card.base card.totals) (append-nil (take card.held w))

    all-accounts : (last : Last) (how : How) → Accounts room card.base card.totals (take card.held w) last how
        → Accounts room start.base start.totals seen last how
    all-accounts last (How.Ended x) h = so_far-end ∙ h
    all-accounts last (How.Refused x) h = λ more. far.same more ∙ h more
    all-accounts last (How.Unread error) h = record { rest = h.rest; same = λ more. far.same more ∙ h.same more }
    all-accounts last How.TooLong h = record { rest = h.rest; same = λ more. far.same more ∙ h.same more }
    all-accounts last How.TooFar h = record { rest = h.rest; same = λ more. far.same more ∙ h.same more }

    -- a turn that ends the run gives the promise of the whole run
    pub so_far-runs : (width : ℕ) → Sound card width → (last : Last) → Stops room w card last → Runs room start first last
    so_far-runs width sound last s = record {
      added = far.added;
      long = omega (arith, far.long, s.same_base, s.same-held);
      accounts = all-accounts last last.how s.accounts;
      numbered = omega (arith, s.same_base, s.same-held, sound.held_fits, sound.numbered);
      place-fits = omega (arith, s.same-held, s.place-fits);
    }
