-- What is listed of some bytes: by answers, by steps of `walk`, and in a window of the card. Assumes nothing.
use Prim.Native.Nat.{ℕ, zero, suc, ◌+◌, ◌<◌}
use native.Mathlib.Omega.{arith}
use mathlib.Core.Path.{◌≡◌, refl, ap, ap₂, sym, ◌∙◌}
use mathlib.Core.List.{List, ◌∷◌, ◌++◌}
use borrow.Author.Tests.{eq-eqb, ne_eqb}
use lib.IntN.{ℤ}
use lib.ListN.{length, drop, length-drop}
use lib.Seq.{drop-drop, drop-append-le}
use Rattle.std.specs.Prelude.{Ok, Err}
use Rattle.error.specs.declared.Refusal.{Refusal}
use Rattle.error.specs.Numbers.{number_of}
use Rattle.error.proofs.Outcome.{some_number}
use Rattle.rfc9639.specs.declared.Settings.{Settings}
use Rattle.rfc9639.specs.Read.{Report, refusal, Result, result, read}
use Rattle.rfc9639.specs.FrameByFrame.{Verdict, accept, undecided, refuse, verdict_of, verdict, goes_on, answers}
use Rattle.demands.proofs.FrameByFrame.{accept-zero, verdict_is, Lawful, answers_unrolled, lawful}
use Rattle.frame.specs.declared.Accepted.{Accepted}
use Rattle.frame.specs.Reads.{report_of}
use Rattle.walk.specs.declared.Step.{Step}
use Rattle.walk.specs.Steps.{Steps}
use Rattle.frame_list.specs.declared.Totals.{Totals}
use Rattle.frame_list.specs.Listing.{with_frame, Listing, listing, listed_as}

-- ---- an answer

module _ (place : ℕ) (t : Totals) (q : Result) (qs : List Result) where
  frame-listing : q.report.number ≡ 0
      → listing place t (q ∷ qs) ≡ listing (place + q.report.consumed) (with_frame t q.report.channels q.report.size q.report.rate) qs
  unfolding listing
  frame-listing z = rw (eq-eqb q.report.number 0 z)

  stop-listing : (q.report.number ≡ 0 → ⊥) → listing place t (q ∷ qs) ≡ record { place = place; totals = t; number = q.report.number }
  unfolding listing
  stop-listing n = rw (ne_eqb q.report.number 0 n)

-- ---- all answers, and a window

module _ {one : List ℕ → Result} (law : Lawful one) where
  abbrev shown : ℕ → Totals → List ℕ → Listing
  shown place t s = listing place t (answers one s)

  pub frame-shown : (place : ℕ) (t : Totals) (s : List ℕ) → verdict (one s) ≡ accept
      → shown place t s
      ≡ shown (place + (one s).report.consumed) (with_frame t (one s).report.channels (one s).report.size (one s).report.rate) (drop (one s).report.consumed s)
  unfolding goes_on
  frame-shown place t s e =
      ap (listing place t) (answers_unrolled law s ∙ ap (λ (k : Verdict). one s ∷ goes_on k (answers one (drop (one s).report.consumed s))) e)
      ∙ frame-listing place t (one s) (answers one (drop (one s).report.consumed s)) (accept-zero (one s).report.number e)

  pub other-shown : (place : ℕ) (t : Totals) (s : List ℕ) → (verdict (one s) ≡ accept → ⊥)
      → shown place t s ≡ record { place = place; totals = t; number = (one s).report.number }
  unfolding verdict_of
  other-shown place t s n = ap (listing place t) (answers_unrolled law s) ∙ stop-listing place t (one s) _ (λ z. n (verdict_is z refl))

  -- What is listed of a window, and what that says about every card that continues it.
  record WindowListing (place : ℕ) (t : Totals) (w : List ℕ) : Type 0 where
    within : ℕ
    totals : Totals
    number : ℕ
    is : shown place t w ≡ record { place = place + within; totals = totals; number = number }
    goes : verdict_of number ≡ undecided → (more : List ℕ) → shown place t (w ++ more) ≡ shown (place + within) totals (drop within w ++ more)
    stands : (verdict_of number ≡ undecided → ⊥) → (more : List ℕ) → shown place t (w ++ more) ≡ shown place t w

  module _ (place : ℕ) (t : Totals) (w : List ℕ) where
    abbrev taken : ℕ
    taken = (one w).report.consumed

    abbrev totals_after : Totals
    totals_after = with_frame t (one w).report.channels (one w).report.size (one w).report.rate

    -- an answer that is decided in the window is the card's answer
    longer : (verdict (one w) ≡ undecided → ⊥) → (more : List ℕ) → one (w ++ more) ≡ one w
    longer known more = law.extended w more known

    module _ (e : verdict (one w) ≡ accept) where
      frame-known : verdict (one w) ≡ undecided → ⊥
      frame-known u = let z : ◌≡◌ {A = ℕ} 0 1 = cc in omega arith

      frame-longer : (more : List ℕ) → shown place t (w ++ more) ≡ shown (place + taken) totals_after (drop taken w ++ more)
      frame-longer more =
          let same = longer frame-known more in
          frame-shown place t (w ++ more) (ap verdict same ∙ e)
          ∙ ap (λ (q : Result). shown (place + q.report.consumed) (with_frame t q.report.channels q.report.size q.report.rate) (drop q.report.consumed (w ++ more))) same
          ∙ ap (shown (place + taken) totals_after) (drop-append-le taken w more (law.there w e))

      frame-window-listing : WindowListing (place + taken) totals_after (drop taken w) → WindowListing place t w
      frame-window-listing f =
          let sum : place + taken + f.within ≡ place + (taken + f.within) = omega arith in
          record {
            within = taken + f.within;
            totals = f.totals;
            number = f.number;
            is = frame-shown place t w e ∙ f.is ∙ ap (λ m. record { place = m; totals = f.totals; number = f.number }) sum;
            goes = λ u more.
                frame-longer more ∙ f.goes u more
                ∙ ap₂ (λ m (l : List ℕ). shown m f.totals (l ++ more)) sum (drop-drop f.within taken w);
            stands = λ known more. frame-longer more ∙ f.stands known more ∙ sym (frame-shown place t w e);
          }

    undecided-window-listing : verdict (one w) ≡ undecided → WindowListing place t w
    undecided-window-listing e =
        let sum : place ≡ place + 0 = omega arith in
        record {
          within = 0;
          totals = t;
          number = (one w).report.number;
          is =
              other-shown place t w (λ f. let z : ◌≡◌ {A = ℕ} 0 1 = cc in omega arith)
              ∙ ap (λ m. record { place = m; totals = t; number = (one w).report.number }) sum;
          goes = λ u more. ap (λ m. shown m t (w ++ more)) sum;
          stands = λ known. absurd (known e);
        }

    refused-window-listing : verdict (one w) ≡ refuse → WindowListing place t w
    refused-window-listing e =
        let sum : place ≡ place + 0 = omega arith in
        let none : verdict (one w) ≡ accept → ⊥ = λ f. let z : ◌≡◌ {A = ℕ} 0 1 = cc in omega arith in
        let known : verdict (one w) ≡ undecided → ⊥ = λ u. let z : ◌≡◌ {A = ℕ} 0 1 = cc in omega arith in
        record {
          within = 0;
          totals = t;
          number = (one w).report.number;
          is = other-shown place t w none ∙ ap (λ m. record { place = m; totals = t; number = (one w).report.number }) sum;
          goes = λ u. absurd (known u);
          stands = λ k more.
              let same = longer known more in
              other-shown place t (w ++ more) (λ f. none (sym (ap verdict same) ∙ f))
              ∙ ap (λ (q : Result). record { place = place; totals = t; number = q.report.number }) same ∙ sym (other-shown place t w none);
        }

  window-listing : (n : ℕ) (place : ℕ) (t : Totals) (w : List ℕ) → length w < n → WindowListing place t w
  window-listing zero place t w h = absurd (omega arith)
  window-listing (suc n) place t w h = go (verdict (one w)) refl (window-listing n)
    where
      go : (k : Verdict) → verdict (one w) ≡ k → ((p : ℕ) (u : Totals) (v : List ℕ) → length v < n → WindowListing p u v) → WindowListing place t w
      go accept e again =
          frame-window-listing place t w e
          (again _ _ _ (omega (arith, law.there w e, law.some w e, length-drop (one w).report.consumed w)))
      go undecided e again = undecided-window-listing place t w e
      go refuse e again = refused-window-listing place t w e

  module _ (place : ℕ) (t : Totals) (w : List ℕ) (k : ℕ) {number : ℕ} {u : Totals}
      (is : shown place t w ≡ record { place = place + k; totals = u; number = number }) where
    abbrev f : WindowListing place t w
    f = window-listing (suc (length w)) place t w (omega arith)

    alike : ◌≡◌ {A = Listing} (record { place = place + f.within; totals = f.totals; number = f.number }) (record { place = place + k; totals = u; number = number })
    alike = sym f.is ∙ is

    -- if more bytes may change the answer at a place, the list goes on from there
    pub goes_on-from : verdict_of number ≡ undecided → (more : List ℕ) → shown place t (w ++ more) ≡ shown (place + k) u (drop k w ++ more)
    goes_on-from e more =
        let same : f.within ≡ k = omega (arith, ap (λ (l : Listing). l.place) alike) in
        f.goes (ap verdict_of (ap (λ (l : Listing). l.number) alike) ∙ e) more
        ∙ ap₂ (λ m (v : Totals). shown (place + m) v (drop m w ++ more)) same (ap (λ (l : Listing). l.totals) alike)

    -- if they cannot, the list is the same whatever follows
    pub list_stands : (verdict_of number ≡ undecided → ⊥) → (more : List ℕ) → shown place t (w ++ more) ≡ record { place = place + k; totals = u; number = number }
    list_stands known more = f.stands (λ e. known (sym (ap verdict_of (ap (λ (l : Listing). l.number) alike)) ∙ e)) more ∙ is

-- ---- a step of a walk

module _ (s : List ℕ) (set : Settings) (room base : ℕ) where
  abbrev one : List ℕ → Result
  one = result (record { given = set; room = room })

  module _ (place : ℕ) {b left : List ℤ} {r : Step} (long : length b ≡ room) (h : Steps s place set b r left) (t : Totals) where
    step-report : report_of r.answer ≡ (one (drop place s)).report
    unfolding read
    step-report = h.answer.report ∙ ap (λ n. (result (record { given = set; room = n }) (drop place s)).report) long

    next : r.place ≡ place + (one (drop place s)).report.consumed
    unfolding read
    next = h.next ∙ ap (λ n. place + (result (record { given = set; room = n }) (drop place s)).report.consumed) long

    pub step-frame : {f : Accepted} → r.answer ≡ Ok f
        → listed_as set room (base + place) t (drop place s) ≡ listed_as set room (base + r.place) (with_frame t f.channels f.size f.rate) (drop r.place s)
    unfolding verdict_of
    step-frame {f} e =
        let q = (one (drop place s)).report in
        let is = ap report_of (sym e) ∙ step-report in
        let sum : base + place + q.consumed ≡ base + r.place = omega (arith, next) in
        frame-shown (lawful (record { given = set; room = room })) (base + place) t (drop place s) (verdict_is (sym (ap (λ (p : Report). p.number) is)) refl)
        ∙ ap₂ (λ m (l : List ℕ). listed_as set room m (with_frame t q.channels q.size q.rate) l) sum (drop-drop q.consumed place s ∙ ap (λ n. drop n s) (sym next))
        ∙ ap (λ (p : Report). listed_as set room (base + r.place) (with_frame t p.channels p.size p.rate) (drop r.place s)) (sym is)

    pub step-refused : {x : Refusal} → r.answer ≡ Err x
        → listed_as set room (base + place) t (drop place s) ≡ record { place = base + place; totals = t; number = number_of x }
    unfolding refusal
    step-refused {x} e =
        let is = ap (λ (p : Report). p.number) (ap report_of (sym e) ∙ step-report) in
        other-shown (lawful (record { given = set; room = room })) (base + place) t (drop place s)
        (λ k. let z = accept-zero (one (drop place s)).report.number k in omega (arith, some_number x, is))
        ∙ ap (λ m. record { place = base + place; totals = t; number = m }) (sym is)
