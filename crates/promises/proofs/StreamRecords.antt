-- WHAT A STREAM'S RECORD CHANGES, for the code: with the frame's own bits nothing but the rate. The rate of a record sways
-- no sample and no refusal. Assumes nothing.
use Prim.Native.Nat.{ℕ}
use mathlib.Core.Bool.{true}
use mathlib.Core.Path.{◌≡◌, ap, sym, ◌∙◌}
use mathlib.Core.List.{List, ◌++◌}
use lib.IntN.{ℤ}
use lib.ListN.{length, drop}
use Rattle.std.specs.Prelude.{Option, Some, None}
use Rattle.reading.specs.declared.Place.{Place}
use Rattle.reading.specs.Places.{got_at, run_at, place_of}
use Rattle.rfc9639.specs.declared.FrameHeader.{FrameHeader}
use Rattle.rfc9639.specs.declared.Settings.{Settings}
use Rattle.rfc9639.specs.declared.StreamRecord.{StreamRecord}
use Rattle.rfc9639.specs.Header.{header}
use Rattle.rfc9639.specs.Stream.{possible}
use Rattle.rfc9639.specs.Read.{Result, result, read}
use Rattle.demands.proofs.SameBits as record-laws
use Rattle.demands.proofs.SameBits.{unrated_report, unrated}
use Rattle.frame.specs.Reads.{report_of}
use Rattle.promises.proofs.Outcomes.{ReadAnswer, ReadFrame, reads}

-- equal answers but for the rate, and equal samples
abbrev pub SameButRate : ReadAnswer → List ℤ → ReadAnswer → List ℤ → Type 0
SameButRate r left r' left' = (unrated_report (report_of r) ≡ unrated_report (report_of r')) × (left ≡ left')

module _ (block : Option ℕ) (s : List ℕ) (b : List ℤ) where
  abbrev under : Option StreamRecord → Settings
  under stream = record { block = block; stream = stream }

  abbrev result_under : Option StreamRecord → Result
  result_under stream = result (record { given = under stream; room = length b }) s

  alike : {x y : Option StreamRecord} {r r' : ReadAnswer} {left left' : List ℤ} → ReadFrame (under x) s b r left → ReadFrame (under y) s b r' left'
      → unrated (result_under x) ≡ unrated (result_under y) → SameButRate r left r' left'
  unfolding read
  alike o p e = (
    ap unrated_report (reads o).report ∙ ap (λ (q : Result). q.report) e ∙ sym (ap unrated_report (reads p).report),
    (reads o).samples ∙ ap (λ (q : Result). q.front ++ drop (length q.front) b) e ∙ sym (reads p).samples,
  )

  -- two records that differ in the rate alone
  pub rate_sways_nothing : {bits rate rate' : ℕ} {r r' : ReadAnswer} {left left' : List ℤ}
      → ReadFrame (under (Some (record { bits = bits; rate = rate }))) s b r left → ReadFrame (under (Some (record { bits = bits; rate = rate' }))) s b r' left' → SameButRate r left r' left'
  rate_sways_nothing {bits} {rate} {rate'} o p = alike o p (record-laws.rate_sways_nothing block (length b) s bits rate rate')

  -- a record, and none, for a frame that has the record's bits as its own
  pub same_bits : {bits rate : ℕ} → possible (under (Some (record { bits = bits; rate = rate }))) ≡ true
      → ((h : FrameHeader) (p : Place) → run_at header s (place_of 0) ≡ got_at h p → h.bits ≡ bits)
      → {r r' : ReadAnswer} {left left' : List ℤ}
      → ReadFrame (under (Some (record { bits = bits; rate = rate }))) s b r left → ReadFrame (under None) s b r' left' → SameButRate r left r' left'
  same_bits {bits} {rate} can equal o p = alike o p (record-laws.same_bits block (length b) s bits rate can equal)
