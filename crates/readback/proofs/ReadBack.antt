-- READ-BACK: what the definition writes it reads back, whatever follows, in any buffer with room and under any settings
-- that the frame is readable under. A record with other bits is refused, and under fixed blocking a size given below the
-- frame's. Assumes nothing.
use Prim.Native.Nat.{ℕ, ◌+◌, ◌≤◌, ◌<◌}
use native.Mathlib.Omega.{arith}
use mathlib.Core.Path.{◌≡◌, refl, ap, sym, ◌∙◌}
use mathlib.Core.Bool.{Bool, true, false}
use mathlib.Core.List.{List, [], ◌++◌, append_assoc, append-nil}
use lib.IntN.{ℤ}
use lib.ListN.{length, drop}
use Rattle.std.specs.Prelude.{Option, Some, None}
use Rattle.reading.specs.declared.Place.{Place}
use Rattle.reading.specs.Readers.{Ask, run}
use Rattle.reading.specs.Bytes.{bits_of_bytes}
use Rattle.reading.specs.Places.{place_of, got_at, to_at, run_at}
use Rattle.reading.proofs.ByteRuns.{place_is, start_in, run_at_in}
use Rattle.reading.proofs.BytePrefixes.{bits_of_bytes_append}
use Rattle.rfc9639.specs.declared.FrameSetting.{FrameSetting}
use Rattle.rfc9639.specs.declared.Settings.{Settings}
use Rattle.rfc9639.specs.HeaderCodes.{assignment, channel_count}
use Rattle.rfc9639.specs.Header.{header}
use Rattle.rfc9639.specs.Stream.{possible, bits_fit}
use Rattle.rfc9639.specs.Frame.{ReaderSettings, Frame, frame}
use Rattle.rfc9639.specs.Read.{Report, refusal, accepted, Result, untouched, result, read}
use Rattle.rfc9639.specs.Write.{header_bits, subframes_bits, padded_to_byte, footed, frame_bits, frame_bytes, allowed, all_fit}
use Rattle.rfc9639.proofs.FrameBits.{length-frame_bits, bits_of-frame}
use Rattle.rfc9639.proofs.AllowedSettings.{allowed_facts}
use Rattle.demands.proofs.Results.{frame-result}
use Rattle.demands.proofs.StreamRecords.{bits_read_lem}
use Rattle.demands.proofs.ResultCases.{other-bits, larger_block}
use Rattle.readback.specs.FirstSample.{first_of}
use Rattle.readback.specs.StreamRate.{rate_of}
use Rattle.readback.specs.Readable.{readable}
use Rattle.readback.proofs.SpelledValues.{Spells}
use Rattle.readback.proofs.SamplesAndResiduals.{all_fit_facts}
use Rattle.readback.proofs.Header.{header_of, spells_header}
use Rattle.readback.proofs.StreamBlock.{first_is, completed_is, smaller_unfit}
use Rattle.readback.proofs.Frame.{spells_frame}

-- the report on a written frame
abbrev pub written_report : FrameSetting → ℕ → Option ℕ → Option ℕ → Report
written_report set consumed first rate = record {
  number = 0;
  consumed = consumed;
  first = first;
  rate = rate;
  channels = channel_count (assignment set.channels);
  bits = set.bits;
  size = set.size;
}

module _ (set : FrameSetting) (xs : List ℤ) (rest : List ℕ) where
  -- a reader whose value the first of the frame's bits spell gets it from the frame's bytes
  run_written : {A : Type 0} (p : Ask A) (bs more : List ℕ) {a : A} → frame_bits set xs ≡ bs ++ more → Spells [] p bs a
      → run_at p (frame_bytes set xs ++ rest) (place_of 0) ≡ got_at a (place_of (0 + length bs))
  unfolding to_at
  run_written p bs more starts s =
      run_at_in p (start_in (frame_bytes set xs ++ rest))
      ∙ ap (λ t. to_at (run p t 0))
      (bits_of_bytes_append (frame_bytes set xs) rest ∙ ap (λ t. t ++ bits_of_bytes rest) (bits_of-frame set xs ∙ starts) ∙ append_assoc bs more (bits_of_bytes rest))
      ∙ ap to_at (s.reads (more ++ bits_of_bytes rest))

  abbrev written_frame : Option ℕ → Frame
  written_frame rate = record { header = header_of rate set; samples = xs }

  abbrev end : Place
  end = record { byte = length (frame_bytes set xs); bit = 0 }

  run-frame : (reader : ReaderSettings) {rate : Option ℕ} → Spells [] (frame reader) (frame_bits set xs) (written_frame rate)
      → run_at (frame reader) (frame_bytes set xs ++ rest) (place_of 0) ≡ got_at (written_frame rate) end
  run-frame reader {rate} s =
      run_written (frame reader) (frame_bits set xs) [] (sym (append-nil (frame_bits set xs))) s
      ∙ ap (got_at (written_frame rate)) (sym (place_is (length (frame_bytes set xs)) 0 (0 + length (frame_bits set xs)) (omega arith) (omega (arith, length-frame_bits set xs))))

  -- the frame's bits start with those of its header
  run-header : Spells [] header (header_bits set) (header_of None set)
      → run_at header (frame_bytes set xs ++ rest) (place_of 0) ≡ got_at (header_of None set) (place_of (0 + length (header_bits set)))
  unfolding frame_bits footed padded_to_byte
  run-header s = run_written header (header_bits set) _ (append_assoc (header_bits set ++ subframes_bits set xs) _ _ ∙ append_assoc (header_bits set) _ _) s

-- the outcome, by the result
read_by : (given : Settings) (s : List ℕ) (buffer : List ℤ) {r : Result} → result (record { given = given; room = length buffer }) s ≡ r
    → read given s buffer ≡ record { report = r.report; buffer = r.front ++ drop (length r.front) buffer }
unfolding read
read_by given s buffer e = ap (λ (r : Result). record { report = r.report; buffer = r.front ++ drop (length r.front) buffer }) e

module _ (given : Settings) (set : FrameSetting) (xs : List ℤ) where
  pub read_back : readable given set ≡ true → allowed set (length xs) ≡ true → all_fit set.bits xs ≡ true
      → (rest : List ℕ) (buffer : List ℤ) → length xs ≤ length buffer
      → read given (frame_bytes set xs ++ rest) buffer
      ≡ record {
        report = record {
          number = 0;
          consumed = length (frame_bytes set xs);
          first = first_of given.block set;
          rate = rate_of given.stream;
          channels = channel_count (assignment set.channels);
          bits = set.bits;
          size = set.size;
        };
        buffer = xs ++ drop (length xs) buffer;
      }
  unfolding accepted
  read_back can ok fit rest buffer room =
      let reader : ReaderSettings = record { given = given; room = length buffer } in
      let s = frame_bytes set xs ++ rest in
      let spells = spells_frame set xs (allowed_facts set (length xs) ok) (all_fit_facts set.bits xs fit) given can (length buffer) room in
      read_by given s buffer (frame-result reader s (run-frame set xs rest reader spells))
      ∙ ap (λ n. record { report = written_report set (length (frame_bytes set xs)) n (rate_of given.stream); buffer = xs ++ drop (length xs) buffer }) (first_is given.block set)

  -- What is refused, whatever the samples are, and however much room there is: a frame whose bits are not the stream's ..
  pub other-refused : possible given ≡ true → bits_fit given.stream set.bits ≡ false → allowed set (length xs) ≡ true → (rest : List ℕ) (buffer : List ℤ)
      → read given (frame_bytes set xs ++ rest) buffer ≡ record { report = refusal 9; buffer = buffer }
  unfolding untouched
  other-refused can other ok rest buffer =
      let reader : ReaderSettings = record { given = given; room = length buffer } in
      let s = frame_bytes set xs ++ rest in
      let facts = allowed_facts set (length xs) ok in
      let some : 0 < set.bits = omega (arith, facts.depth.some) in
      read_by given s buffer
      (other-bits reader s can (run-header set xs rest (spells_header set facts)) (sym (completed_is given.stream set some)) (bits_read_lem some facts.depth.most) other)

  -- .. and with fixed blocking a frame whose block is larger than the stream's
  pub smaller_refused : possible given ≡ true → set.blocking ≡ 0 → {size : ℕ} → given.block ≡ Some size → size < set.size
      → allowed set (length xs) ≡ true → (rest : List ℕ) (buffer : List ℤ)
      → read given (frame_bytes set xs ++ rest) buffer ≡ record { report = refusal 9; buffer = buffer }
  unfolding untouched
  smaller_refused can fixed known less ok rest buffer = go (bits_fit given.stream set.bits) refl
    where
      go : (b : Bool) → bits_fit given.stream set.bits ≡ b → read given (frame_bytes set xs ++ rest) buffer ≡ record { report = refusal 9; buffer = buffer }
      go true equal =
          let reader : ReaderSettings = record { given = given; room = length buffer } in
          let s = frame_bytes set xs ++ rest in
          let facts = allowed_facts set (length xs) ok in
          let some : 0 < set.bits = omega (arith, facts.depth.some) in
          read_by given s buffer
          (larger_block reader s can (run-header set xs rest (spells_header set facts)) (sym (completed_is given.stream set some)) (bits_read_lem some facts.depth.most) equal
          (smaller_unfit given set fixed known less))
      go false other = other-refused can other ok rest buffer
