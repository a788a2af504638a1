-- READ-BACK, for the code: `read_frame` gets the samples back from what `write_frame` wrote, under the settings that the
-- frame is readable under. Other bits in the stream's record are refused, and under fixed blocking a size given below the
-- frame's. Assumes nothing.
use Prim.Native.Nat.{ℕ, ◌≤◌, ◌<◌}
use native.Mathlib.Omega.{arith}
use mathlib.Core.Path.{◌≡◌, refl, ap, sym, ◌∙◌}
use mathlib.Core.Bool.{Bool, true, false, cond}
use mathlib.Core.List.{List, ◌++◌}
use lib.Dec.{leb}
use lib.IntN.{ℤ}
use lib.ListN.{length, take, drop}
use lib.Seq.{take-append_seam}
use Rattle.std.specs.Prelude.{Some, Ok, Err}
use Rattle.error.specs.declared.Refusal.TheVariants.{BadShape}
use Rattle.rfc9639.specs.declared.FrameSetting.{FrameSetting}
use Rattle.rfc9639.specs.declared.Settings.{Settings}
use Rattle.rfc9639.specs.HeaderCodes.{assignment, channel_count}
use Rattle.rfc9639.specs.Stream.{possible, bits_fit}
use Rattle.rfc9639.specs.Read.{refusal, Outcome, read}
use Rattle.rfc9639.specs.Write.{frame_bytes, frame_bound, allowed, all_fit, Written, unwritten, write}
use Rattle.rfc9639.proofs.LengthBound.{within-bound}
use Rattle.readback.specs.FirstSample.{first_of}
use Rattle.readback.specs.StreamRate.{rate_of}
use Rattle.readback.specs.Readable.{readable}
use Rattle.readback.proofs.ReadBack.{written_report, read_back, other-refused, smaller_refused}
use Rattle.frame.proofs.Outcome.{report-tells}
use Rattle.frame_writer.specs.Outcomes.{outcome}
use Rattle.promises.proofs.Outcomes.{ReadAnswer, ReadFrame, reads, WriteFrame, writes}

-- what a written frame says about its settings, samples and output
record Wrote (set : FrameSetting) (xs : List ℤ) (out : List ℕ) (n : ℕ) (left : List ℕ) : Type 0 where
  ok : allowed set (length xs) ≡ true
  fit : all_fit set.bits xs ≡ true
  long : n ≡ length (frame_bytes set xs)
  laid : left ≡ frame_bytes set xs ++ drop (length (frame_bytes set xs)) out

wrote : (set : FrameSetting) (xs : List ℤ) (out : List ℕ) (n : ℕ) (left : List ℕ) → outcome (Ok n) left ≡ write set xs out → Wrote set xs out n left
unfolding write unwritten
wrote set xs out n left e = go (allowed set (length xs)) refl (all_fit set.bits xs) refl (leb (length (frame_bytes set xs)) (length out)) e
  where
    at_length : (b : Bool) → Written
    at_length b = cond b (record { number = 0; length = length (frame_bytes set xs); output = frame_bytes set xs ++ drop (length (frame_bytes set xs)) out }) (unwritten 13 out)

    go : (a : Bool) → allowed set (length xs) ≡ a → (f : Bool) → all_fit set.bits xs ≡ f → (l : Bool)
        → outcome (Ok n) left ≡ cond a (cond f (at_length l) (unwritten 12 out)) (unwritten 11 out) → Wrote set xs out n left
    go true a true f true e = record {
      ok = a;
      fit = f;
      long = ap (λ (w : Written). w.length) e;
      laid = ap (λ (w : Written). w.output) e;
    }
    go true a true f false e = absurd (let z = ap (λ (w : Written). w.number) e in omega arith)
    go true a false f l e = absurd (let z = ap (λ (w : Written). w.number) e in omega arith)
    go false a f g l e = absurd (let z = ap (λ (w : Written). w.number) e in omega arith)

module _ {set : FrameSetting} {xs : List ℤ} {out : List ℕ} {n : ℕ} {left : List ℕ} (o : WriteFrame set xs out (Ok n) left) where
  abbrev w : Wrote set xs out n left
  w = wrote set xs out n left (writes o)

  -- the output starts with the frame
  frame-first : take n left ≡ frame_bytes set xs
  frame-first = ap (λ m. take m left) w.long ∙ ap (take (length (frame_bytes set xs))) w.laid ∙ take-append_seam (frame_bytes set xs) _

  -- the frame is within the length bound
  pub written_within-bound : n ≤ frame_bound set
  written_within-bound = omega (arith, w.long, within-bound set xs)

  -- What `read_frame` does with the frame, whatever bytes follow it.
  module _ (given : Settings) (rest : List ℕ) (b : List ℤ) where
    read_is : read given (take n left ++ rest) b ≡ read given (frame_bytes set xs ++ rest) b
    read_is = ap (λ (x : List ℕ). read given (x ++ rest) b) frame-first

    -- the answer where the definition refuses the frame with 9
    shape_refused : read given (frame_bytes set xs ++ rest) b ≡ record { report = refusal 9; buffer = b }
        → {r : ReadAnswer} {kept : List ℤ} → ReadFrame given (take n left ++ rest) b r kept → (r ≡ Err BadShape) × (kept ≡ b)
    shape_refused back {r} p = (
      report-tells r (Err BadShape) ((reads p).report ∙ ap (λ (x : Outcome). x.report) (read_is ∙ back)),
      (reads p).samples ∙ ap (λ (x : Outcome). x.buffer) (read_is ∙ back),
    )

    -- Under settings that it is readable under, in any buffer with room for the samples.
    pub written_reads-back : readable given set ≡ true → length xs ≤ length b → {r : ReadAnswer} {kept : List ℤ} → ReadFrame given (take n left ++ rest) b r kept
        → (r ≡ Ok (record { consumed = n; first = first_of given.block set; rate = rate_of given.stream; channels = channel_count (assignment set.channels); bits = set.bits; size = set.size }))
        × (kept ≡ xs ++ drop (length xs) b)
    written_reads-back can room {r} p =
        let back = read_is ∙ read_back given set xs can w.ok w.fit rest b room in (
          report-tells r _ ((reads p).report ∙ ap (λ (x : Outcome). x.report) back ∙ ap (λ m. written_report set m (first_of given.block set) (rate_of given.stream)) (sym w.long)),
          (reads p).samples ∙ ap (λ (x : Outcome). x.buffer) back,
        )

    -- What is refused, in any buffer: bits that are not those of the stream's record ..
    pub other-bits-refused : possible given ≡ true → bits_fit given.stream set.bits ≡ false
        → {r : ReadAnswer} {kept : List ℤ} → ReadFrame given (take n left ++ rest) b r kept
        → (r ≡ Err BadShape) × (kept ≡ b)
    other-bits-refused can other p = shape_refused (other-refused given set xs can other w.ok rest b) p

    -- .. and with fixed blocking a size given for the stream's blocks that is below the frame's.
    pub smaller_size-refused : possible given ≡ true → set.blocking ≡ 0 → {size : ℕ} → given.block ≡ Some size → size < set.size
        → {r : ReadAnswer} {kept : List ℤ} → ReadFrame given (take n left ++ rest) b r kept
        → (r ≡ Err BadShape) × (kept ≡ b)
    smaller_size-refused can fixed known less p = shape_refused (smaller_refused given set xs can fixed known less w.ok rest b) p
