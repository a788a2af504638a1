-- WHAT A STREAM'S RECORD CHANGES: with the frame's own bits nothing but the rate. The rate of a record sways no sample and
-- no refusal. Assumes nothing.
use Prim.Native.Nat.{ℕ, ◌≤◌, ◌<◌}
use native.Mathlib.Omega.{arith}
use native.Mathlib.Decide.{dec_le}
use mathlib.Core.Bool.{Bool, true, false, cond}
use mathlib.Core.Path.{◌≡◌, refl, ap, sym, ◌∙◌, subst}
use mathlib.Core.List.{List}
use borrow.Author.Tests.{eq-eqb}
use lib.Dec.{eqb}
use lib.IntN.{ℤ}
use Rattle.std.specs.Prelude.{Option, Some, None}
use Rattle.reading.specs.declared.Place.{Place}
use Rattle.reading.specs.Readers.{bits}
use Rattle.reading.specs.Places.{At, got_at, refused_at, short_at, place_of, run_at}
use Rattle.reading.proofs.ByteRuns.{and_fst}
use Rattle.reading.proofs.Postconditions.{Meets, holds_at, holds_bits}
use Rattle.rfc9639.specs.declared.FrameHeader.{FrameHeader}
use Rattle.rfc9639.specs.declared.StreamRecord.{StreamRecord}
use Rattle.rfc9639.specs.Header.{header, sample_count}
use Rattle.rfc9639.specs.Stream.{in_range, bits_in_range, possible, bits_or, completed, bits_read, bits_fit, block_fits}
use Rattle.rfc9639.specs.Frame.{ReaderSettings, body}
use Rattle.rfc9639.specs.Read.{Report, accepted, Result, zeroed, result}
use Rattle.demands.proofs.ResultCases as cases

-- a report and a result, but for the rate
abbrev pub unrated_report : Report → Report
unrated_report r = record {
  number = r.number;
  consumed = r.consumed;
  first = r.first;
  rate = None;
  channels = r.channels;
  bits = r.bits;
  size = r.size;
}

abbrev pub unrated : Result → Result
unrated r = record { report = unrated_report r.report; front = r.front }

-- a header but for its rate, which is this one
abbrev rated : Option ℕ → FrameHeader → FrameHeader
rated rate h = record { time = h.time; size = h.size; rate = rate; channels = h.channels; bits = h.bits }

module _ (block : Option ℕ) (room : ℕ) (s : List ℕ) where
  abbrev pub under : Option StreamRecord → ReaderSettings
  under stream = record { given = record { block = block; stream = stream }; room = room }

  -- ---- two records that complete the header alike but for the rate

  module _ (x y : Option StreamRecord) (ok : possible (under x).given ≡ true) (ok' : possible (under y).given ≡ true) where
    abbrev Same : Type 0
    Same = unrated (result (under x) s) ≡ unrated (result (under y) s)

    both : {q r : Result} → result (under x) s ≡ q → result (under y) s ≡ r → unrated q ≡ unrated r → Same
    both e f g = ap unrated e ∙ g ∙ sym (ap unrated f)

    module _ {own h : FrameHeader} {p : Place} (e : run_at header s (place_of 0) ≡ got_at own p) (whole : h ≡ completed x own)
        {rate : Option ℕ} (twin : rated rate h ≡ completed y own) where
      module _ (some : bits_read h.bits ≡ true) where
        module _ (equal : bits_fit x h.bits ≡ true) (equal' : bits_fit y h.bits ≡ true) where
          module _ (within : block_fits block h.time h.size ≡ true) where
            module _ (fits : sample_count h ≤ room) where
              body_alike : {v : ℕ} {q : Place} → run_at (bits 1) s p ≡ got_at v q → (z : At (List ℤ)) → run_at (body h) s p ≡ z → Same
              unfolding sample_count body accepted zeroed
              body_alike f (got_at xs end) g =
                  both (cases.body-read (under x) s ok e whole some equal within fits f g) (cases.body-read (under y) s ok' e twin some equal' within fits f g) refl
              body_alike f (refused_at n) g =
                  both (cases.body_refused (under x) s ok e whole some equal within fits f n g)
                  (cases.body_refused (under y) s ok' e twin some equal' within fits f n g) refl
              body_alike f short_at g =
                  both (cases.body-short (under x) s ok e whole some equal within fits f g) (cases.body-short (under y) s ok' e twin some equal' within fits f g) refl

              bit-alike : (z : At ℕ) → run_at (bits 1) s p ≡ z → Same
              unfolding sample_count
              bit-alike (got_at v q) f = body_alike f (run_at (body h) s p) refl
              bit-alike (refused_at n) f = absurd (subst (Meets (λ _. ⊥) (λ v. v < 2)) f (holds_at (λ _. ⊥) (λ v. v < 2) s p (holds_bits 1)))
              bit-alike short_at f =
                  both (cases.no_first_bit (under x) s ok e whole some equal within fits f) (cases.no_first_bit (under y) s ok' e twin some equal' within fits f) refl

            room-alike : Dec (sample_count h ≤ room) → Same
            unfolding sample_count
            room-alike (yes fits) = bit-alike fits (run_at (bits 1) s p) refl
            room-alike (no less) =
                both (cases.no_room (under x) s ok e whole some equal within (omega arith)) (cases.no_room (under y) s ok' e twin some equal' within (omega arith)) refl

          block-alike : (b : Bool) → block_fits block h.time h.size ≡ b → Same
          block-alike true within = room-alike within (dec_le (sample_count h) room)
          block-alike false larger =
              both (cases.larger_block (under x) s ok e whole some equal larger) (cases.larger_block (under y) s ok' e twin some equal' larger) refl

        stream-alike : bits_fit x h.bits ≡ bits_fit y h.bits → (b : Bool) → bits_fit x h.bits ≡ b → Same
        stream-alike one true equal = block-alike equal (sym one ∙ equal) (block_fits block h.time h.size) refl
        stream-alike one false other =
            both (cases.other-bits (under x) s ok e whole some other) (cases.other-bits (under y) s ok' e twin some (sym one ∙ other)) refl

      bits-alike : bits_fit x h.bits ≡ bits_fit y h.bits → (b : Bool) → bits_read h.bits ≡ b → Same
      bits-alike one true some = stream-alike some one (bits_fit x h.bits) refl
      bits-alike one false none = both (cases.no_bits (under x) s ok e whole none) (cases.no_bits (under y) s ok' e twin none) refl

    record Twins (own : FrameHeader) : Type 0 where
      rate : Option ℕ
      twin : rated rate (completed x own) ≡ completed y own
      fit : bits_fit x (completed x own).bits ≡ bits_fit y (completed x own).bits

    alike : ((own : FrameHeader) (p : Place) → run_at header s (place_of 0) ≡ got_at own p → Twins own) → Same
    alike twins = go (run_at header s (place_of 0)) refl
      where
        go : (z : At FrameHeader) → run_at header s (place_of 0) ≡ z → Same
        go (got_at own p) e = let t = twins own p e in bits-alike e refl t.twin t.fit (bits_read (completed x own).bits) refl
        go (refused_at n) e = both (cases.header_refused (under x) s ok n e) (cases.header_refused (under y) s ok' n e) refl
        go short_at e = both (cases.header-short (under x) s ok e) (cases.header-short (under y) s ok' e) refl

  -- ---- the laws

  -- the rate of a record changes nothing but the rate in the report
  pub rate_sways_nothing : (bits rate rate' : ℕ) → unrated (result (under (Some (record { bits = bits; rate = rate }))) s) ≡ unrated (result (under (Some (record { bits = bits; rate = rate' }))) s)
  unfolding possible bits_in_range completed bits_fit
  rate_sways_nothing bits rate rate' = go (possible (under x).given) refl
    where
      x : Option StreamRecord
      x = Some (record { bits = bits; rate = rate })

      y : Option StreamRecord
      y = Some (record { bits = bits; rate = rate' })

      go : (b : Bool) → possible (under x).given ≡ b → unrated (result (under x) s) ≡ unrated (result (under y) s)
      go true ok = alike x y ok ok (λ own p e. record { rate = (completed y own).rate; twin = refl; fit = refl })
      go false bad = ap unrated (cases.impossible (under x) s bad ∙ sym (cases.impossible (under y) s bad))

  -- for a frame that has the stream's bits as its own, a record changes nothing but the rate
  pub same_bits : (bits rate : ℕ) → possible (under (Some (record { bits = bits; rate = rate }))).given ≡ true
      → ((h : FrameHeader) (p : Place) → run_at header s (place_of 0) ≡ got_at h p → h.bits ≡ bits)
      → unrated (result (under (Some (record { bits = bits; rate = rate }))) s) ≡ unrated (result (under None) s)
  unfolding possible bits_in_range completed bits_or bits_fit
  same_bits bits rate ok equal =
      alike (Some (record { bits = bits; rate = rate })) None ok (rw (and_fst (in_range block) _ ok) refl)
      (λ own p e. let same = is own (equal own p e) in
      record {
        rate = own.rate;
        twin = ap (λ b. record { time = own.time; size = own.size; rate = own.rate; channels = own.channels; bits = b }) same;
        fit = eq-eqb _ bits (same ∙ equal own p e);
      })
    where
      is : (own : FrameHeader) → own.bits ≡ bits → bits_or bits own.bits ≡ own.bits
      is own e = go (eqb own.bits 0)
        where
          go : (b : Bool) → cond b bits own.bits ≡ own.bits
          go true = sym e
          go false = refl
