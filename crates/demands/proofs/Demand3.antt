-- DEMAND 3, for the definition's `read`, under any settings: what more bytes, more room and other buffers can change.
-- Assumes nothing.
use Prim.Native.Nat.{ℕ, ◌*◌, ◌≤◌, ◌<◌}
use native.Mathlib.Omega.{arith}
use mathlib.Core.Bool.{true, false}
use mathlib.Core.Logic.{◌≢◌}
use mathlib.Core.Path.{◌≡◌, refl, ap, sym, ◌∙◌, subst}
use mathlib.Core.List.{List, [], ◌++◌, append_assoc}
use lib.IntN.{ℤ}
use lib.ListN.{length, take, drop, length-append, length-drop}
use lib.Seq.{drop-append-le, take-append_seam, drop-append_seam}
use Rattle.reading.specs.Places.{place_of}
use Rattle.reading.proofs.Postconditions.{Meets, holds_at, Sized, Every}
use Rattle.rfc9639.specs.declared.Settings.{Settings}
use Rattle.rfc9639.specs.Header.{sample_count}
use Rattle.rfc9639.specs.Stream.{possible}
use Rattle.rfc9639.specs.Frame.{ReaderSettings}
use Rattle.rfc9639.specs.Read.{refusal, accepted, untouched, Result, result, Outcome, read}
use Rattle.demands.proofs.Headers.{Listed}
use Rattle.demands.proofs.FrameSamples.{Sample, FrameInRoom, frame_holds}
use Rattle.demands.proofs.Results
use Rattle.demands.proofs.FrameByFrame
use Rattle.demands.proofs.ResultCases as cases

-- All of it follows from the prefix rules, which hold for every reader (crate `reading`), and from no detail of the
-- format.

-- The settings are held fixed.
module _ (given : Settings) where
  -- a result, written into a buffer
  pub filled : List ℤ → Result → Outcome
  filled b r = record { report = r.report; buffer = r.front ++ drop (length r.front) b }

  pub read_is : (s : List ℕ) (b : List ℤ) → read given s b ≡ filled b (result (record { given = given; room = length b }) s)
  unfolding read filled
  read_is s b = refl

  -- ---- 1. More bytes never change an answer other than 1 and 2: report and buffer stay the same, whatever follows.

  pub never_unsaid : (s t : List ℕ) (b : List ℤ) → (read given s b).report.number ≢ 1 → (read given s b).report.number ≢ 2 → read given (s ++ t) b ≡ read given s b
  unfolding read
  never_unsaid s t b one two = read_is (s ++ t) b ∙ ap (filled b) (Results.extended (record { given = given; room = length b }) s t one two) ∙ sym (read_is s b)

  -- ---- 2. An accepted frame: its consumed bytes alone give its answer and buffer; fewer give 2, and none give 1.

  module _ (s : List ℕ) (b : List ℤ) (frame : (read given s b).report.number ≡ 0) where
    pub counted-there : (read given s b).report.consumed ≤ length s
    unfolding read
    counted-there = Results.there (record { given = given; room = length b }) s frame

    pub counted-suffice : read given (take (read given s b).report.consumed s) b ≡ read given s b
    unfolding read
    counted-suffice = read_is _ b ∙ ap (filled b) (Results.suffice (record { given = given; room = length b }) s frame) ∙ sym (read_is s b)

    pub fewer-cut_short : (m : ℕ) → 0 < m → m < (read given s b).report.consumed → (read given (take m s) b).report.number ≡ 2
    unfolding read
    fewer-cut_short m some l = Results.fewer (record { given = given; room = length b }) s frame m some l

  pub nothing_left : possible given ≡ true → (b : List ℤ) → (read given [] b).report.number ≡ 1
  unfolding read
  nothing_left ok b = FrameByFrame.nothing_left (record { given = given; room = length b }) ok

  -- so an accepted frame has at least one byte
  pub counted-some : (s : List ℕ) (b : List ℤ) → (read given s b).report.number ≡ 0 → 0 < (read given s b).report.consumed
  unfolding read
  counted-some s b z = FrameByFrame.some_byte (record { given = given; room = length b }) s z

  -- ---- 3. More room changes no answer but 7: report and samples are the same, and the added room is untouched.

  pub more_room : (s : List ℕ) (b more : List ℤ) → (read given s b).report.number ≢ 7
      → read given s (b ++ more) ≡ record { report = (read given s b).report; buffer = (read given s b).buffer ++ more }
  unfolding read filled
  more_room s b more lacks =
      let set : ReaderSettings = record { given = given; room = length b } in
      let front = (result set s).front in
      ap (filled (b ++ more)) (Results.roomier given (length b) (length (b ++ more)) (omega (arith, length-append b more)) s lacks)
      ∙ ap (λ (l : List ℤ). record { report = (result set s).report; buffer = l })
      (ap (λ (l : List ℤ). front ++ l) (drop-append-le (length front) b more (Results.front-room set s)) ∙ sym (append_assoc front (drop (length front) b) more))

  -- ---- 4. What the buffer held before does not affect the answer, and remains only where nothing is written.

  -- how many samples are written, by the bytes and the room alone
  pub places_written : List ℕ → ℕ → ℕ
  places_written s room = length (result (record { given = given; room = room }) s).front

  -- they are within the buffer
  pub places_written-room : (s : List ℕ) (room : ℕ) → places_written s room ≤ room
  unfolding places_written
  places_written-room s room = Results.front-room (record { given = given; room = room }) s

  places_written-first : (s : List ℕ) (b : List ℤ) → take (places_written s (length b)) (read given s b).buffer ≡ (result (record { given = given; room = length b }) s).front
  unfolding read places_written
  places_written-first s b = take-append_seam (result (record { given = given; room = length b }) s).front _

  pub untouched-after : (s : List ℕ) (b : List ℤ) → drop (places_written s (length b)) (read given s b).buffer ≡ drop (places_written s (length b)) b
  unfolding read places_written
  untouched-after s b = drop-append_seam (result (record { given = given; room = length b }) s).front _

  module _ (s : List ℕ) (b b' : List ℤ) (e : length b ≡ length b') where
    pub report_ignores_buffer : (read given s b).report ≡ (read given s b').report
    unfolding read
    report_ignores_buffer = ap (λ n. (result (record { given = given; room = n }) s).report) e

    pub front_ignores_buffer : take (places_written s (length b)) (read given s b).buffer ≡ take (places_written s (length b)) (read given s b').buffer
    front_ignores_buffer =
        places_written-first s b ∙ ap (λ n. (result (record { given = given; room = n }) s).front) e ∙ sym (places_written-first s b')
        ∙ ap (λ n. take (places_written s n) (read given s b').buffer) (sym e)

  -- ---- 5. Settings that no stream has are refused whatever the bytes, and the buffer stays.

  pub settings-refused : possible given ≡ false → (s : List ℕ) (b : List ℤ) → read given s b ≡ record { report = refusal 11; buffer = b }
  unfolding read untouched filled
  settings-refused bad s b = read_is s b ∙ ap (filled b) (cases.impossible (record { given = given; room = length b }) s bad)

  -- ---- Besides: the number is a listed one; the buffer keeps its length; an accepted frame writes N samples,
  -- channels times block size, each of 32 bits.

  pub number-listed : (s : List ℕ) (b : List ℤ) → (read given s b).report.number ≤ 11
  unfolding read
  number-listed s b = Results.number-listed (record { given = given; room = length b }) s

  pub length-kept : (s : List ℕ) (b : List ℤ) → length (read given s b).buffer ≡ length b
  unfolding read
  length-kept s b =
      let set : ReaderSettings = record { given = given; room = length b } in
      let front = (result set s).front in
      length-append front (drop (length front) b) ∙ omega (arith, length-drop (length front) b, Results.front-room set s)

  module _ (s : List ℕ) (b : List ℤ) (frame-read : (read given s b).report.number ≡ 0) where
    samples-sized : Sized ((read given s b).report.channels * (read given s b).report.size) Sample (result (record { given = given; room = length b }) s).front
    unfolding read sample_count accepted
    samples-sized =
        let set : ReaderSettings = record { given = given; room = length b } in
        let r = Results.zero-read set s frame-read in
        let w = subst (Meets Listed (FrameInRoom set)) r.ran (holds_at Listed (FrameInRoom set) s (place_of 0) (frame_holds set)) in
        subst (λ (q : Result). Sized (q.report.channels * q.report.size) Sample q.front) (sym r.is) w.samples

    pub accepted-count : places_written s (length b) ≡ (read given s b).report.channels * (read given s b).report.size
    unfolding places_written
    accepted-count = samples-sized.count

    pub accepted-samples : Every Sample (take ((read given s b).report.channels * (read given s b).report.size) (read given s b).buffer)
    accepted-samples = rw (← accepted-count, places_written-first s b) samples-sized.every
