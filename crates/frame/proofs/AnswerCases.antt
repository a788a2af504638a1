-- Answers by cases: from the definition's result to what the reader answers and leaves in the samples. Assumes nothing.
use Prim.Native.Nat.{ℕ, ◌≤◌, ◌<◌}
use native.Mathlib.Omega.{arith}
use mathlib.Core.Path.{◌≡◌, refl, ap, ap₂, sym, ◌∙◌}
use mathlib.Core.Bool.{Bool, true, false, cond}
use mathlib.Core.List.{List, [], ◌∷◌, ◌++◌}
use borrow.Author.Tests.{eqb-true}
use lib.Dec.{eqb}
use lib.IntN.{ℤ, pos}
use lib.ListN.{length, drop, replicate, length-replicate}
use Rattle.reading.specs.declared.Place.{Place}
use Rattle.reading.specs.Readers.{bits}
use Rattle.reading.specs.Places.{place_of, got_at, refused_at, short_at, run_at}
use Rattle.std.specs.Prelude.{Option, Result as Answer, Ok, Err}
use Rattle.std.specs.Result.{IsErrAnd}
use Rattle.error.specs.declared.Refusal.{Refusal}
use Rattle.error.specs.declared.Refusal.TheVariants.{NothingLeft, CutShort, NoRoom, NotDone, BadShape, BadArgument}
use Rattle.error.proofs.Refusals.{exit}
use Rattle.error.specs.Numbers.{number_of, refused_by}
use Rattle.rfc9639.specs.declared.FrameHeader.{FrameHeader}
use Rattle.rfc9639.specs.declared.Settings.{Settings}
use Rattle.rfc9639.specs.HeaderCodes.{channel_count}
use Rattle.rfc9639.specs.Header.{header, sample_count}
use Rattle.rfc9639.specs.Stream.{possible, completed, bits_read, bits_fit, block_fits, first_sample}
use Rattle.rfc9639.specs.Frame.{ReaderSettings, body}
use Rattle.rfc9639.specs.Read.{accepted, Result, untouched, zeroed, cut_short, result, read}
use Rattle.demands.proofs.FrameByFrame.{no_header as empty-header}
use Rattle.demands.proofs.ResultCases as cases
use Rattle.subframe.specs.Answers.{Left}
use Rattle.frame.specs.declared.Accepted.{Accepted}
use Rattle.frame.specs.Reads.{report_of, Reads}

-- ---- an input of no bytes

no_header : (s : List ℕ) → length s ≡ 0 → run_at header s (place_of 0) ≡ short_at
no_header [] e = empty-header
no_header (x ∷ s) e = absurd (omega arith)

cut_short-empty : (s : List ℕ) → length s ≡ 0 → cut_short s ≡ 1
unfolding cut_short
cut_short-empty [] e = refl
cut_short-empty (x ∷ s) e = absurd (omega arith)

cut_short_nonempty : (s : List ℕ) → (length s ≡ 0 → ⊥) → cut_short s ≡ 2
unfolding cut_short
cut_short_nonempty [] some = absurd (some refl)
cut_short_nonempty (x ∷ s) some = refl

module _ (given : Settings) (s : List ℕ) (b : List ℤ) where
  abbrev set : ReaderSettings
  set = record { given = given; room = length b }

  -- ---- the answer and the samples, by the definition's result

  reads-result : {r : Result} → result set s ≡ r → {a : Answer Accepted Refusal} {left : List ℤ} → report_of a ≡ r.report → left ≡ r.front ++ drop (length r.front) b
      → Reads (read given s b) a left
  unfolding read
  reads-result e f g = record {
    report = f ∙ ap (λ x. x.report) (sym e);
    samples = g ∙ ap (λ x. x.front ++ drop (length x.front) b) (sym e);
  }

  reads-untouched : (e : Refusal) → result set s ≡ untouched (number_of e) → Reads (read given s b) (Err e) b
  unfolding untouched
  reads-untouched e q = reads-result q refl refl

  reads-zeroed : (e : Refusal) (h : FrameHeader) → result set s ≡ zeroed (number_of e) h → {left : List ℤ}
      → left ≡ replicate (sample_count h) (pos 0) ++ drop (sample_count h) b → Reads (read given s b) (Err e) left
  unfolding zeroed
  reads-zeroed e h q z =
      reads-result q refl (z ∙ ap (λ n. replicate (sample_count h) (pos 0) ++ drop n b) (sym (length-replicate (sample_count h) (pos 0))))

  -- ---- before the header is read

  pub settings-refused : possible given ≡ false → Reads (read given s b) (Err BadArgument) b
  settings-refused bad = reads-untouched BadArgument (cases.impossible set s bad)

  module _ (ok : possible given ≡ true) where
    pub nothing_left : length s ≡ 0 → Reads (read given s b) (Err NothingLeft) b
    nothing_left e = reads-untouched NothingLeft (cases.header-short set s ok (no_header s e) ∙ ap untouched (cut_short-empty s e))

    pub header-stops : (length s ≡ 0 → ⊥) → (e : Refusal) → run_at header s (place_of 0) ≡ refused_by e → Reads (read given s b) (Err e) b
    header-stops some e = go (eqb (number_of e) 2) refl
      where
        go : (x : Bool) → eqb (number_of e) 2 ≡ x → run_at header s (place_of 0) ≡ cond x short_at (refused_at (number_of e)) → Reads (read given s b) (Err e) b
        go true f h = reads-untouched e (cases.header-short set s ok h ∙ ap untouched (cut_short_nonempty s some ∙ sym (eqb-true (number_of e) 2 f)))
        go false f h = reads-untouched e (cases.header_refused set s ok (number_of e) h)

    -- ---- after a header: `own` as it was read, and `h` with the stream's values

    module _ {own h : FrameHeader} {p : Place} (e : run_at header s (place_of 0) ≡ got_at own p) (whole : h ≡ completed given.stream own) where
      some_bytes : length s ≡ 0 → ⊥
      some_bytes f = let d = no_header s f in let z : ◌≡◌ {A = ℕ} 0 1 = cc in omega arith

      pub no_bits : bits_read h.bits ≡ false → Reads (read given s b) (Err NotDone) b
      no_bits none = reads-untouched NotDone (cases.no_bits set s ok e whole none)

      module _ (some : bits_read h.bits ≡ true) where
        pub other-bits : bits_fit given.stream h.bits ≡ false → Reads (read given s b) (Err BadShape) b
        other-bits other = reads-untouched BadShape (cases.other-bits set s ok e whole some other)

        module _ (equal : bits_fit given.stream h.bits ≡ true) where
          pub larger_block : block_fits given.block h.time h.size ≡ false → Reads (read given s b) (Err BadShape) b
          larger_block larger = reads-untouched BadShape (cases.larger_block set s ok e whole some equal larger)

          module _ (within : block_fits given.block h.time h.size ≡ true) where
            pub no_room : length b < sample_count h → Reads (read given s b) (Err NoRoom) b
            no_room less = reads-untouched NoRoom (cases.no_room set s ok e whole some equal within less)

            module _ (fits : sample_count h ≤ length b) where
              pub no_first_bit : run_at (bits 1) s p ≡ short_at → Reads (read given s b) (Err CutShort) b
              no_first_bit f = reads-untouched CutShort (cases.no_first_bit set s ok e whole some equal within fits f ∙ ap untouched (cut_short_nonempty s some_bytes))

              -- what the decoder of the body left is the front of the buffer
              module _ {v : ℕ} {q : Place} (f : run_at (bits 1) s p ≡ got_at v q) {front left : List ℤ} (stands : left ≡ front ++ drop (sample_count h) b) where
                pub body-read : {end : Place} → Left (run_at (body h) s p) (sample_count h) (Ok end) front → length front ≡ sample_count h
                    → {first : Option ℕ} {channels : ℕ} → first ≡ first_sample given.block h.time → channels ≡ channel_count h.channels
                    → Reads (read given s b) (Ok (record { consumed = end.byte; first = first; rate = h.rate; channels = channels; bits = h.bits; size = h.size })) left
                unfolding accepted
                body-read {end} leaves long i j =
                    reads-result (cases.body-read set s ok e whole some equal within fits f (sym leaves.answer))
                    (ap₂ (λ (x : Option ℕ) (y : ℕ). record { number = 0; consumed = end.byte; first = x; rate = h.rate; channels = y; bits = h.bits; size = h.size }) i j)
                    (stands ∙ ap (λ n. front ++ drop n b) (sym long))

                pub body_refused : {x : Refusal} (r : Answer Accepted Refusal) → IsErrAnd r (λ y. y ≡ x) → Left (run_at (body h) s p) (sample_count h) (Err x) front → Reads (read given s b) r left
                body_refused {x} r i leaves =
                    rw (exit r x i) (reads-zeroed x h (go (eqb (number_of x) 2) refl (sym leaves.answer)) (stands ∙ ap (λ l. l ++ drop (sample_count h) b) leaves.stopped))
                  where
                    go : (y : Bool) → eqb (number_of x) 2 ≡ y → run_at (body h) s p ≡ cond y short_at (refused_at (number_of x)) → result set s ≡ zeroed (number_of x) h
                    go true g k = cases.body-short set s ok e whole some equal within fits f k ∙ ap (λ n. zeroed n h) (sym (eqb-true (number_of x) 2 g))
                    go false g k = cases.body_refused set s ok e whole some equal within fits f (number_of x) k
