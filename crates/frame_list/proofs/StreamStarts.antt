-- The card's first bytes: the mark and STREAMINFO, and the stream header by what follows them. Assumes nothing.
use Prim.Native.Nat.{ℕ, ◌<◌}
use native.Mathlib.Omega.{arith}
use mathlib.Core.Logic.{inl, inr, ⊎_elim}
use mathlib.Core.Path.{◌≡◌, refl, ap, sym, ◌∙◌, subst}
use mathlib.Core.Bool.{Bool, true}
use mathlib.Core.List.{List, ◌++◌, append_assoc}
use borrow.Author.Tests.{le-leb}
use lib.ListN.{length, take}
use Rattle.std.specs.Prelude.{Some}
use Rattle.reading.specs.declared.Place.{Place}
use Rattle.reading.specs.Readers.{Ask, done, ◌>>=◌}
use Rattle.reading.specs.Places.{place_of, got_at, refused_at, short_at, run_at}
use Rattle.reading.proofs.ByteRuns.{run_at-done, stays_in, bind_got_lem, bind_refused, bind_short}
use Rattle.reading.proofs.BytePrefixes.{run_at_append}
use Rattle.reading.proofs.Postconditions.{Meets, holds_at}
use Rattle.std.specs.declared.ops.ControlFlow.{ControlFlow}
use Rattle.std.specs.declared.ops.ControlFlow.TheVariants.{Continue, Break}
use Rattle.error.specs.declared.Refusal.{Refusal}
use Rattle.error.specs.Numbers.{number_of, refused_by}
use Rattle.rfc9639.specs.declared.StreamInfo.{StreamInfo}
use Rattle.rfc9639.specs.Stream.{bits_in_range}
use Rattle.rfc9639.specs.StreamHeader.{stream_start, stream_header, stream_header_of}
use Rattle.rfc9639.proofs.StreamHeaderBits.{start-takes}
use Rattle.rfc9639.proofs.StreamHeaderValues.{StreamRefusal, InfoInRange, start_holds}
use Rattle.frame_list.specs.declared.Card.{Card}
use Rattle.frame_list.specs.declared.How.{How}
use Rattle.frame_list.specs.declared.Last.{Last}
use Rattle.frame_list.specs.declared.opening.Skip.{Skip}
use Rattle.frame_list.specs.declared.opening.Start.{Start}
use Rattle.frame_list.specs.declared.opening.Look.{Look}
use Rattle.frame_list.specs.Opening.{told, byte_at, blocks_after, blocks_from, Tells, SkipsAll, SkipsTo, Refusing, Unstarted, NotFound, StartTurns, Bare, Headed, HeaderOver, Stream}
use Rattle.frame_list.proofs.MetadataBlocks.{refused-short, refused-number}

-- ---- a refusal of the start

module _ (s : List ℕ) where
  header-short : run_at stream_start s (place_of 0) ≡ short_at → stream_header_of s ≡ short_at
  unfolding stream_header_of stream_header
  header-short e = bind_short stream_start s (place_of 0) _ e

  header_refused : {n : ℕ} → run_at stream_start s (place_of 0) ≡ refused_at n → stream_header_of s ≡ refused_at n
  unfolding stream_header_of stream_header
  header_refused e = bind_refused stream_start s (place_of 0) _ e

  -- the mark and STREAMINFO are there: the rest is up to the blocks
  module _ {last : Bool} {info : StreamInfo} {pass : ℕ} (start : run_at stream_start s (place_of 0) ≡ got_at (last, info) (byte_at pass)) where
    rest : Ask StreamInfo
    rest = blocks_after last (length s) >>= (λ _. done info)

    header-rest : stream_header_of s ≡ run_at rest s (byte_at pass)
    unfolding stream_header_of stream_header rest blocks_after
    header-rest = bind_got_lem stream_start s (place_of 0) _ start

    pub header-ends : {at : Place} → blocks_from last s pass ≡ got_at tt at → stream_header_of s ≡ got_at info at
    unfolding rest blocks_from
    header-ends {at} e =
        header-rest ∙ bind_got_lem (blocks_after last (length s)) s (byte_at pass) (λ _. done info) e
        ∙ run_at-done info (stays_in (blocks_after last (length s)) s (byte_at pass) e)

    pub blocks-refused : {n : ℕ} → blocks_from last s pass ≡ refused_at n → stream_header_of s ≡ refused_at n
    unfolding rest blocks_from
    blocks-refused e = header-rest ∙ bind_refused (blocks_after last (length s)) s (byte_at pass) (λ _. done info) e

    pub blocks-short : blocks_from last s pass ≡ short_at → stream_header_of s ≡ short_at
    unfolding rest blocks_from
    blocks-short e = header-rest ∙ bind_short (blocks_after last (length s)) s (byte_at pass) (λ _. done info) e

    -- they take bytes, and say bits that a stream can have
    pub start-some : 0 < pass
    start-some = let x = start-takes.taken s (place_of 0) (last, info) (byte_at pass) start in omega (arith, x.1, x.2)

    start-bits : bits_in_range (Some (record { bits = info.bits; rate = info.rate })) ≡ true
    unfolding bits_in_range
    start-bits =
        let k : InfoInRange info = subst (Meets StreamRefusal (λ (x : Bool × StreamInfo). InfoInRange x.1)) start (holds_at StreamRefusal (λ (x : Bool × StreamInfo). InfoInRange x.1) s (place_of 0) start_holds) in
        rw (le-leb 4 info.bits k.deep, le-leb info.bits 32 k.bits)

-- the start of a card is that of its first bytes
module _ (s more : List ℕ) where
  start-refused : {n : ℕ} → run_at stream_start s (place_of 0) ≡ refused_at n → run_at stream_start (s ++ more) (place_of 0) ≡ refused_at n
  start-refused e = run_at_append stream_start s (place_of 0) more (λ d. let f = sym e ∙ d in let z : ◌≡◌ {A = ℕ} 0 1 = cc in omega arith) ∙ e

  start-got : {x : Bool × StreamInfo} {at : Place} → run_at stream_start s (place_of 0) ≡ got_at x at → run_at stream_start (s ++ more) (place_of 0) ≡ got_at x at
  start-got e = run_at_append stream_start s (place_of 0) more (λ d. let f = sym e ∙ d in let z : ◌≡◌ {A = ℕ} 0 1 = cc in omega arith) ∙ e

-- ---- a look at the first bytes

module _ (was left : List ℕ) (card : Card) (e : Refusal) where
  module _ (is : refused_by e ≡ run_at stream_start (take card.held was) (place_of 0)) where
    refused-tells : (how : How) → Refusing e how → Tells stream_header_of (take card.held was) how
    refused-tells (How.Ended x) n = header-short (take card.held was) (sym is ∙ refused-short e n)
    refused-tells (How.Refused x) (same, n) = λ more.
        header_refused (take card.held was ++ more) (start-refused (take card.held was) more (sym is ∙ refused-number e n))
        ∙ ap (λ (y : Refusal). refused_at (number_of y)) (sym same)
    refused-tells (How.Unread error) n = tt
    refused-tells How.TooLong n = tt
    refused-tells How.TooFar n = tt

    pub unstarted_turns : (r : ControlFlow Last Look) → Unstarted was card e r left → StartTurns was card r left
    unstarted_turns (Continue (Look.On next)) h = h
    unstarted_turns (Continue (Look.At (Start.Bare next))) h =
        (h.0, h.1, ⊎_elim (λ n. inl (λ more. header_refused (take card.held was ++ more) (start-refused (take card.held was) more (sym is ∙ refused-number e (λ z. omega arith))) ∙ ap refused_at n)) inr h.2)
    unstarted_turns (Continue (Look.At (Start.Header info skip))) h = absurd h
    unstarted_turns (Break end) h = record { same_card = h.same_card; same_place = h.same_place; tells = refused-tells end.how h.how }

-- ---- all looks: the window's first byte stays the card's

module _ (card : Card) (width : ℕ) (bare : Bare card width) where
  pub bare_over : (s : List ℕ) (end : Last) → NotFound s card end → HeaderOver end
  bare_over s end f = record {
    seen = s;
    tells = f.tells;
    numbered = omega (arith, ap (λ (c : Card). c.base) f.same_card, ap (λ (c : Card). c.held) f.same_card, bare.sound.held_fits, bare.sound.numbered);
    place-fits = omega (arith, f.same_place);
  }

-- ---- the whole header

module _ (was : List ℕ) (info : StreamInfo) (skip : Skip) (h : Headed info skip was) where
  abbrev first : List ℕ
  first = take skip.card.held was

  pub header-all : (next : Card) (left : List ℕ) → SkipsAll first skip next left → Stream info (record { base = next.base; held = next.held; rest = next.rest; totals = told info }) left
  header-all next left a = record {
    head = a.head;
    long = a.long;
    all = λ more.
        ap stream_header_of
        (sym (append_assoc a.head (take next.held left) more) ∙ ap (λ (s : List ℕ). s ++ more) a.joined ∙ append_assoc first a.added more)
        ∙ header-ends (first ++ (a.added ++ more)) (start-got first (a.added ++ more) h.start) (a.all more);
    tells = refl;
    sound = record { held_fits = a.sound.held_fits; numbered = a.sound.numbered; bits = start-bits first h.start };
  }

  header-tells : (added : List ℕ) (how : How) → Tells (λ s. blocks_from skip.last s skip.pass) (first ++ added) how → Tells stream_header_of (first ++ added) how
  header-tells added (How.Ended e) t = blocks-short (first ++ added) (start-got first added h.start) t
  header-tells added (How.Refused e) t = λ more.
      blocks-refused ((first ++ added) ++ more)
      (subst (λ (s : List ℕ). run_at stream_start s (place_of 0) ≡ got_at (skip.last, info) (byte_at skip.pass)) (sym (append_assoc first added more)) (start-got first (added ++ more) h.start))
      (t more)
  header-tells added (How.Unread error) t = tt
  header-tells added How.TooLong t = tt
  header-tells added How.TooFar t = tt

  pub header_over : (end : Last) → SkipsTo first skip end → HeaderOver end
  header_over end a = record { seen = first ++ a.added; tells = header-tells a.added end.how a.tells; numbered = a.numbered; place-fits = a.place-fits }
