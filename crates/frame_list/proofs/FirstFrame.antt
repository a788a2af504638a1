-- The card's first frame gives the size of the stream's blocks: what is listed of a window goes on, or stands, whatever
-- follows, also where that size was found in this window. Assumes nothing.
use Prim.Native.Nat.{ℕ, ◌+◌}
use native.Mathlib.Omega.{arith}
use mathlib.Core.Bool.{Bool, true, false, ◌&&◌}
use mathlib.Core.Path.{◌≡◌, refl, ap, ap₂, sym, ◌∙◌, subst}
use mathlib.Core.List.{List, [], ◌∷◌, ◌++◌}
use lib.Dec.{eqb}
use lib.ListN.{drop}
use Rattle.std.specs.Prelude.{Option, Some, None, if◌then◌else◌}
use Rattle.reading.specs.Places.{At, got_at, refused_at, short_at, run_at, place_of}
use Rattle.reading.proofs.ByteRuns.{and_fst}
use Rattle.reading.proofs.Postconditions.{Meets, holds_at}
use Rattle.rfc9639.specs.declared.FrameHeader.{FrameHeader}
use Rattle.rfc9639.specs.declared.Settings.{Settings}
use Rattle.rfc9639.specs.declared.StreamRecord.{StreamRecord}
use Rattle.rfc9639.specs.Header.{header}
use Rattle.rfc9639.specs.Stream.{in_range, bits_in_range, possible}
use Rattle.rfc9639.specs.Read.{refusal, Result, untouched, cut_short, result}
use Rattle.rfc9639.specs.FrameByFrame.{accept, undecided, verdict_of, verdict, stream_settings}
use Rattle.demands.proofs.Headers.{Early, Sound, header_holds}
use Rattle.demands.proofs.Results.{cut-number}
use Rattle.demands.proofs.ResultCases as cases
use Rattle.demands.proofs.FrameByFrame.{accept-zero, undecided-two, lawful}
use Rattle.demands.proofs.StreamSettings.{header-settings, short-settings, stream-possible, settings_stay}
use Rattle.frame_list.specs.declared.Totals.{Totals}
use Rattle.frame_list.specs.Listing.{with_frame, block_for, with_block, settled, settings_for, Listing, listing, listed_as, listed}
use Rattle.frame_list.proofs.ListedFrames.{other-shown, goes_on-from, list_stands}

-- listing frames keeps the settings of the stream
abbrev Same : Totals → Totals → Type 0
Same u t = (u.block ≡ t.block) × (u.stream ≡ t.stream)

listing-same : (place : ℕ) (t : Totals) (qs : List Result) → Same (listing place t qs).totals t
unfolding listing
listing-same place t [] = (refl, refl)
listing-same place t (q ∷ qs) = go (eqb q.report.number 0) (listing-same (place + q.report.consumed) after qs)
  where
    after : Totals
    after = with_frame t q.report.channels q.report.size q.report.rate

    go : (b : Bool) → Same (listing (place + q.report.consumed) after qs).totals t
        → Same (if b then listing (place + q.report.consumed) after qs else record { place = place; totals = t; number = q.report.number }).totals t
    go true e = e
    go false e = (refl, refl)

module _ (room place : ℕ) (t : Totals) (w : List ℕ) (k : ℕ) {number : ℕ} {u : Totals}
    (bits : bits_in_range t.stream ≡ true) (is : listed room place t w ≡ record { place = place + k; totals = u; number = number }) where
  abbrev set : Settings
  set = settings_for t w

  abbrev one : List ℕ → Result
  one = result (record { given = set; room = room })

  kept : Same u (settled t w)
  kept = subst (λ (l : Listing). Same l.totals (settled t w)) is (listing-same place (settled t w) _)

  pub listed-stream : u.stream ≡ t.stream
  listed-stream = kept.1

  -- the header is not decided, and the stream's block was not known before
  Waits : Type 0
  Waits = (t.block ≡ None) × (run_at header w (place_of 0) ≡ short_at)

  -- else more bytes do not change the stream's block
  longer : (Waits → ⊥) → (more : List ℕ) → listed room place t (w ++ more) ≡ listed_as set room place (settled t w) (w ++ more)
  unfolding Waits
  longer known more =
      ap (λ (b : Option ℕ). listed_as (record { block = b; stream = t.stream }) room place (with_block t b) (w ++ more)) (go t.block refl)
    where
      go : (b : Option ℕ) → t.block ≡ b → block_for b (w ++ more) ≡ block_for b w
      go (Some n) e = refl
      go None e = ap (λ (x : Settings). x.block) (settings_stay w (λ s. known (e, s)) more)

  -- once the stream's block is known, it stays
  settles : {n : ℕ} → block_for t.block w ≡ Some n → (at : ℕ) (s : List ℕ) → listed_as set room at u s ≡ listed room at u s
  settles e at s =
      let b = kept.0 ∙ e in
      let same : block_for t.block w ≡ block_for u.block s = e ∙ sym (ap (λ (x : Option ℕ). block_for x s) b) in
      let own : u.block ≡ block_for u.block s = kept.0 ∙ same in
      ap₂ (λ (x : Option ℕ) (y : Option StreamRecord). listed_as (record { block = x; stream = y }) room at u s) same (sym kept.1)
      ∙ ap (λ (y : Option ℕ). listed_as (settings_for u s) room at (with_block u y) s) own

  -- a first answer that is no frame is all that is listed
  refused-first : (verdict (one w) ≡ accept → ⊥)
      → ◌≡◌ {A = Listing} (record { place = place; totals = settled t w; number = (one w).report.number }) (record { place = place + k; totals = u; number = number })
  refused-first none = sym (other-shown (lawful (record { given = set; room = room })) place (settled t w) w none) ∙ is

  module _ (unknown : t.block ≡ None) where
    block_is : set.block ≡ (stream_settings w).block
    block_is = ap (λ (b : Option ℕ). block_for b w) unknown

    ok : possible set ≡ true
    unfolding possible
    ok = ap₂ (λ (x y : Bool). x && y) (ap in_range block_is ∙ and_fst (in_range (stream_settings w).block) _ (stream-possible w)) bits

    -- without a header the first answer is no frame
    module _ {n : ℕ} (r : result (record { given = set; room = room }) w ≡ untouched n) (some : n ≡ 0 → ⊥) where
      number_is : (one w).report.number ≡ n
      unfolding untouched refusal
      number_is = ap (λ (q : Result). q.report.number) r

      all : ◌≡◌ {A = Listing} (record { place = place; totals = settled t w; number = (one w).report.number }) (record { place = place + k; totals = u; number = number })
      all = refused-first (λ a. some (sym number_is ∙ accept-zero (one w).report.number a))

      first_number_lem : number ≡ n
      first_number_lem = sym (ap (λ (l : Listing). l.number) all) ∙ number_is

      first-place : k ≡ 0
      first-place = omega (arith, ap (λ (l : Listing). l.place) all)

      first-totals : u ≡ settled t w
      first-totals = sym (ap (λ (l : Listing). l.totals) all)

    module _ {m : ℕ} (e : run_at header w (place_of 0) ≡ refused_at m) where
      early : Early m
      early = subst (Meets Early Sound) e (holds_at Early Sound w (place_of 0) header_holds)

      refused_decides : verdict_of number ≡ undecided → ⊥
      refused_decides v =
          omega (arith, early, undecided-two number v, first_number_lem (cases.header_refused (record { given = set; room = room }) w ok m e) (λ z. omega (arith, early)))

    module _ (e : run_at header w (place_of 0) ≡ short_at) where
      short : result (record { given = set; room = room }) w ≡ untouched (cut_short w)
      short = cases.header-short (record { given = set; room = room }) w ok e

      short-undecided : verdict_of number ≡ undecided
      unfolding verdict_of cut_short
      short-undecided = ap verdict_of (first_number_lem short (cut-number w).0) ∙ go w
        where
          go : (s : List ℕ) → verdict_of (cut_short s) ≡ undecided
          go [] = refl
          go (b ∷ s) = refl

      -- nothing was listed, and the next window starts with the same bytes
      short-goes_on : (more : List ℕ) → listed room place t (w ++ more) ≡ listed room (place + k) u (drop k w ++ more)
      short-goes_on more =
          let z = first-place short (cut-number w).0 in
          let same : t ≡ u = ap (with_block t) (unknown ∙ sym (block_is ∙ ap (λ (x : Settings). x.block) (short-settings w e))) ∙ sym (first-totals short (cut-number w).0) in
          let here : place ≡ place + 0 = omega arith in
          ap (λ n. listed room n t (w ++ more)) here ∙ ap₂ (λ (v : Totals) n. listed room (place + n) v (drop n w ++ more)) same (sym z)

  -- if more bytes may change the answer at a place, the list goes on from there
  pub listed-goes_on : verdict_of number ≡ undecided → (more : List ℕ) → listed room place t (w ++ more) ≡ listed room (place + k) u (drop k w ++ more)
  unfolding Waits
  listed-goes_on v more = go t.block refl (run_at header w (place_of 0)) refl
    where
      known : {n : ℕ} → block_for t.block w ≡ Some n → (Waits → ⊥) → listed room place t (w ++ more) ≡ listed room (place + k) u (drop k w ++ more)
      known e no-wait =
          longer no-wait more ∙ goes_on-from (lawful (record { given = set; room = room })) place (settled t w) w k is v more
          ∙ settles e (place + k) (drop k w ++ more)

      go : (b : Option ℕ) → t.block ≡ b → (x : At FrameHeader) → run_at header w (place_of 0) ≡ x
          → listed room place t (w ++ more) ≡ listed room (place + k) u (drop k w ++ more)
      go (Some n) e x f =
          known (ap (λ (b : Option ℕ). block_for b w) e) (λ y. let d = sym e ∙ y.0 in let z : ◌≡◌ {A = ℕ} 0 1 = cc in omega arith)
      go None e (got_at h p) f =
          known (ap (λ (b : Option ℕ). block_for b w) e ∙ ap (λ (x : Settings). x.block) (header-settings w f))
          (λ y. let d = sym f ∙ y.1 in let z : ◌≡◌ {A = ℕ} 0 1 = cc in omega arith)
      go None e (refused_at m) f = absurd (refused_decides e f v)
      go None e short_at f = short-goes_on e f more

  -- if they cannot, the list is the same whatever follows
  pub listed-stands : (verdict_of number ≡ undecided → ⊥) → (more : List ℕ) → listed room place t (w ++ more) ≡ record { place = place + k; totals = u; number = number }
  unfolding Waits
  listed-stands known more =
      longer (λ x. known (short-undecided x.0 x.1)) more
      ∙ list_stands (lawful (record { given = set; room = room })) place (settled t w) w k is known more
