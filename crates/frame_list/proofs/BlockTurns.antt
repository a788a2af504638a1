-- Looks at the window while metadata blocks are passed: each moves on along the card, and what the card has from there on
-- stays the same. Assumes nothing.
use Prim.Native.Nat.{ℕ, ◌+◌, ◌≤◌, ◌<◌, min}
use native.Mathlib.Omega.{arith}
use native.Mathlib.Nat.{zero-add}
use mathlib.Core.Path.{◌≡◌, refl, ap, ap₂, sym, ◌∙◌, subst}
use mathlib.Core.Bool.{Bool, true, false}
use mathlib.Core.List.{List, [], ◌++◌, append_assoc, append-nil}
use lib.ListN.{length, take, drop, length-append, take-append-drop}
use lib.Seq.{length-take-le}
use Rattle.reading.specs.Places.{got_at, short_at}
use Rattle.std.specs.declared.ops.ControlFlow.{ControlFlow}
use Rattle.std.specs.declared.ops.ControlFlow.TheVariants.{Continue, Break}
use Rattle.frame_list.specs.declared.Card.{Card}
use Rattle.frame_list.specs.declared.How.{How}
use Rattle.frame_list.specs.declared.Last.{Last}
use Rattle.frame_list.specs.declared.opening.Skip.{Skip}
use Rattle.frame_list.specs.declared.opening.Passed.{Passed}
use Rattle.frame_list.specs.CardProgress.{Sound}
use Rattle.frame_list.specs.Opening.{byte_at, blocks_from, HopsTo, Lacking, Passes, Tells, GoesOn, ToFrames, Ends, SkipTurns, SkipsAll, SkipsTo}
use Rattle.frame_list.proofs.CardTurns.{window-kept, fresh, window-joined}
use Rattle.frame_list.proofs.MetadataBlocks.{from_past, from_end, window-short}

-- ---- a look at the window

module _ (was left : List ℕ) (skip : Skip) (sound : Sound skip.card (length was)) where
  abbrev w : List ℕ
  w = take skip.card.held was

  held : length w ≡ skip.card.held
  held = length-take-le skip.card.held was sound.held_fits

  module _ {to : ℕ} {last : Bool} (hops : HopsTo w skip.pass skip.last to last) where
    -- the card ends in the window
    cut_off : (last ≡ true → skip.card.held < to) → (u : List ℕ) → 0 < length u + skip.pass → blocks_from skip.last (u ++ w) (length u + skip.pass) ≡ short_at
    cut_off past u some =
        ap (λ (s : List ℕ). blocks_from skip.last (u ++ s) (length u + skip.pass)) (sym (append-nil w)) ∙ hops.same u [] some
        ∙ ap (λ (s : List ℕ). blocks_from last (u ++ s) (length u + to)) (append-nil w) ∙ go last refl
      where
        go : (b : Bool) → last ≡ b → blocks_from last (u ++ w) (length u + to) ≡ short_at
        go true e = from_past (u ++ w) (length u + to) last (omega (arith, length-append u w, held, past e))
        go false e = ap (λ b. blocks_from b (u ++ w) (length u + to)) e ∙ window-short u w to (omega (arith, hops.forth)) (hops.no_head e)

    tells-end : (how : How) → Lacking skip.card to last how → (u : List ℕ) → 0 < length u + skip.pass
        → Tells (λ s. blocks_from skip.last s (length u + skip.pass)) (u ++ w) how
    tells-end (How.Ended e) past = cut_off past
    tells-end (How.Refused e) past = λ u some. absurd past
    tells-end (How.Unread error) past = λ u some. tt
    tells-end How.TooLong past = λ u some. tt
    tells-end How.TooFar past = λ u some. tt

    pub passes_turns : (r : ControlFlow Last Passed) → Passes was skip.card to last r left → SkipTurns was skip r left
    passes_turns (Continue (Passed.On next)) p = record { to = to; last = last; hops = hops; moves = p }
    passes_turns (Continue (Passed.Frames next)) p = record { to = to; hops = subst (HopsTo w skip.pass skip.last to) p.0 hops; moves = p.1 }
    passes_turns (Break end) p = record { same_card = p.same_card; place-fits = p.place-fits; tells = tells-end end.how p.how }

-- ---- all looks

-- the invariant: the bytes read so far are those before the window and those in it, and the blocks from the start on are
-- those from the place on
pub record Skipping (first : List ℕ) (start : Skip) (w : List ℕ) (skip : Skip) : Type 0 where
  pub head : List ℕ
  pub added : List ℕ
  pub long : length head ≡ skip.card.base
  pub joined : head ++ take skip.card.held w ≡ first ++ added
  pub some : 0 < length head + skip.pass
  pub same : (more : List ℕ)
      → blocks_from start.last (first ++ (added ++ more)) start.pass ≡ blocks_from skip.last (first ++ (added ++ more)) (length head + skip.pass)

pub begin : (w : List ℕ) (start : Skip) → start.card.base ≡ 0 → 0 < start.pass → Skipping (take start.card.held w) start w start
begin w start z some = record {
  head = [];
  added = [];
  long = sym z;
  joined = sym (append-nil (take start.card.held w));
  some = omega arith;
  same = λ more. ap (blocks_from start.last (take start.card.held w ++ more)) (sym (zero-add start.pass));
}

module _ (first : List ℕ) (start : Skip) (w : List ℕ) (skip : Skip) (far : Skipping first start w skip) (fits : skip.card.held ≤ length w) where
  abbrev now : List ℕ
  now = take skip.card.held w

  split : (more : List ℕ) → first ++ (far.added ++ more) ≡ far.head ++ (now ++ more)
  split more =
      sym (append_assoc first far.added more) ∙ ap (λ (s : List ℕ). s ++ more) (sym far.joined) ∙ append_assoc far.head now more

  -- the place after the window's heads
  hopped : {to : ℕ} {last : Bool} → HopsTo now skip.pass skip.last to last → (more : List ℕ)
      → blocks_from start.last (first ++ (far.added ++ more)) start.pass ≡ blocks_from last (first ++ (far.added ++ more)) (length far.head + to)
  hopped {to} {last} h more =
      far.same more ∙ ap (λ (s : List ℕ). blocks_from skip.last s (length far.head + skip.pass)) (split more) ∙ h.same far.head more far.some
      ∙ ap (λ (s : List ℕ). blocks_from last s (length far.head + to)) (sym (split more))

  -- the bytes before the window, if it moves on by m bytes
  module _ (m : ℕ) (inside : m ≤ skip.card.held) where
    abbrev before : List ℕ
    before = far.head ++ take m now

    before-long : length before ≡ skip.card.base + m
    before-long = omega (arith, length-append far.head (take m now), far.long, length-take-le m now (omega (arith, length-take-le skip.card.held w fits)))

    before-joined : (more : List ℕ) → before ++ (drop m now ++ more) ≡ first ++ (far.added ++ more)
    before-joined more =
        append_assoc far.head (take m now) (drop m now ++ more)
        ∙ ap (λ (s : List ℕ). far.head ++ s) (sym (append_assoc (take m now) (drop m now) more) ∙ ap (λ (s : List ℕ). s ++ more) (take-append-drop m now))
        ∙ sym (split more)

  pub skipping_on : (next : Skip) (left : List ℕ) → GoesOn w skip next left → Skipping first start left next
  skipping_on next left g =
      let m : ℕ = min g.to skip.card.held in
      let inside : m ≤ skip.card.held = omega arith in
      let new : List ℕ = fresh w skip.card m next.card left g.moves.goes in
      let place : length far.head + g.to ≡ length (before m inside) + next.pass = omega (arith, before-long m inside, far.long, g.moves.same_place) in
      record {
        head = before m inside;
        added = far.added ++ new;
        long = before-long m inside ∙ sym g.moves.goes.next_base;
        joined =
            ap (λ (s : List ℕ). before m inside ++ s) (sym (window-joined w skip.card m next.card left g.moves.goes fits inside)) ∙ before-joined m inside new;
        some = omega (arith, far.some, g.hops.forth, place);
        same = λ more.
            ap (λ (s : List ℕ). blocks_from start.last (first ++ s) start.pass) (append_assoc far.added new more)
            ∙ hopped g.hops (new ++ more)
            ∙ ap (λ (s : List ℕ). blocks_from g.last (first ++ s) (length far.head + g.to)) (sym (append_assoc far.added new more))
            ∙ ap₂ (λ b n. blocks_from b (first ++ ((far.added ++ new) ++ more)) n) (sym g.moves.same-last) place;
      }

  pub skipping_frames : (next : Card) (left : List ℕ) → length left ≡ length w → ToFrames w skip next left → SkipsAll first start next left
  skipping_frames next left long g =
      let m = g.moves in
      let inside : g.to ≤ skip.card.held = m.fits in
      let place : length far.head + g.to ≡ next.base = omega (arith, far.long, m.next_base) in
      record {
        head = before g.to inside;
        added = far.added;
        long = before-long g.to inside ∙ sym m.next_base;
        joined =
            ap (λ (s : List ℕ). before g.to inside ++ s)
            (ap (λ n. take n left) m.next-held ∙ sym (window-kept w left skip.card.held g.to fits inside m.kept) ∙ sym (append-nil (drop g.to now)))
            ∙ before-joined g.to inside [] ∙ ap (λ (s : List ℕ). first ++ s) (append-nil far.added);
        all = λ more.
            hopped g.hops more
            ∙ from_end (first ++ (far.added ++ more)) (length far.head + g.to)
            (omega (arith, ap length (split more), length-append far.head (now ++ more), length-append now more, length-take-le skip.card.held w fits))
            ∙ ap (λ n. got_at tt (byte_at n)) place;
        sound = subst (Sound next) (sym long) m.sound;
      }

  skipping_tells : (how : How) → Tells (λ s. blocks_from skip.last s (length far.head + skip.pass)) (far.head ++ now) how
      → Tells (λ s. blocks_from start.last s start.pass) (first ++ far.added) how
  skipping_tells (How.Ended e) h =
      ap (λ (s : List ℕ). blocks_from start.last (first ++ s) start.pass) (sym (append-nil far.added)) ∙ far.same []
      ∙ ap (λ (s : List ℕ). blocks_from skip.last (first ++ s) (length far.head + skip.pass)) (append-nil far.added)
      ∙ ap (λ (s : List ℕ). blocks_from skip.last s (length far.head + skip.pass)) (sym far.joined) ∙ h
  skipping_tells (How.Refused e) h = λ more.
      ap (λ (s : List ℕ). blocks_from start.last s start.pass) (append_assoc first far.added more) ∙ far.same more
      ∙ ap (λ (s : List ℕ). blocks_from skip.last s (length far.head + skip.pass)) (split more ∙ sym (append_assoc far.head now more)) ∙ h more
  skipping_tells (How.Unread error) h = tt
  skipping_tells How.TooLong h = tt
  skipping_tells How.TooFar h = tt

  pub skipping_over : (width : ℕ) → Sound skip.card width → (end : Last) → Ends w skip end → SkipsTo first start end
  skipping_over width sound end g = record {
    added = far.added;
    tells = skipping_tells end.how (g.tells far.head far.some);
    numbered = omega (arith, ap (λ (c : Card). c.base) g.same_card, ap (λ (c : Card). c.held) g.same_card, sound.held_fits, sound.numbered);
    place-fits = omega (arith, ap (λ (c : Card). c.held) g.same_card, g.place-fits);
  }
