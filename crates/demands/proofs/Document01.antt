-- WHAT STANDS OF DOCUMENT 01: its reading, without settings, and where reading with settings is the same, which it is only
-- without a stream's record. Assumes nothing.
use Prim.Native.Nat.{ℕ, ◌*◌}
use native.Mathlib.Omega.{arith}
use mathlib.Core.Bool.{true}
use mathlib.Core.Path.{◌≡◌, refl, ap, ap₂, sym, ◌∙◌}
use mathlib.Core.List.{List}
use borrow.Author.Tests.{le-leb}
use lib.Dec.{leb, ltb}
use lib.IntN.{ℤ}
use Rattle.std.specs.Prelude.{Option, Some, None}
use Rattle.reading.specs.declared.Place.{Place}
use Rattle.reading.specs.Readers.{Ask, done, ◌>>=◌, ◌>>◌, bits, require}
use Rattle.reading.specs.Places.{At, got_at, refused_at, short_at, place_of, run_at, and_then}
use Rattle.reading.proofs.ByteRuns.{start_in, stays_in, run_at_bind, run_at-done, bind_got_lem, bind_refused, bind_short, bind_parts, require_holds, require-parts}
use Rattle.rfc9639.specs.declared.BlockTime.{BlockTime}
use Rattle.rfc9639.specs.declared.BlockTime.TheVariants.{FrameNumber, SampleNumber}
use Rattle.rfc9639.specs.declared.FrameHeader.{FrameHeader}
use Rattle.rfc9639.specs.declared.Settings.{Settings}
use Rattle.rfc9639.specs.declared.StreamRecord.{StreamRecord}
use Rattle.rfc9639.specs.HeaderCodes.{channel_count}
use Rattle.rfc9639.specs.Header.{header, sample_count}
use Rattle.rfc9639.specs.Stream.{possible, completed, bits_fit, block_fits, first_sample}
use Rattle.rfc9639.specs.Frame.{ReaderSettings, checked, opening, body, Frame, frame}
use Rattle.rfc9639.specs.Read.{Report, accepted, Result, untouched, zeroed, cut_short, begun, finished, result_of, result}
use Rattle.rfc9639.specs.FrameByFrame.{stream_settings}
use Rattle.demands.proofs.Headers.{header-sound}
use Rattle.demands.proofs.FrameRuns.{alike-after}
use Rattle.demands.proofs.StreamRecords.{few_bits-read}
use Rattle.demands.proofs.StreamSettings.{size-possible, header-settings, stream-possible}

-- ---- document 01's reading: as it was before there were settings

-- under fixed blocking the block's own size times the number
pub first_own : FrameHeader → ℕ
first_own h = go h.time
  where
    go : BlockTime → ℕ
    go (FrameNumber n) = h.size * n
    go (SampleNumber n) = n

module _ (room : ℕ) where
  checked01 : FrameHeader → Ask FrameHeader
  checked01 h = do
    require (ltb 0 h.bits) 8
    require (leb (sample_count h) room) 7
    done h

  opening01 : Ask FrameHeader
  opening01 = do
    h ← header
    checked01 h

  begun01 : Ask FrameHeader
  begun01 = do
    h ← opening01
    bit ← bits 1
    done h

  frame01 : Ask Frame
  frame01 = do
    h ← opening01
    xs ← body h
    done (record { header = h; samples = xs })

accepted01 : FrameHeader → Place → Report
accepted01 h end = record {
  number = 0;
  consumed = end.byte;
  first = Some (first_own h);
  rate = h.rate;
  channels = channel_count h.channels;
  bits = h.bits;
  size = h.size;
}

finished01 : FrameHeader → At Frame → Result
finished01 h (got_at f end) = record { report = accepted01 f.header end; front = f.samples }
finished01 h (refused_at n) = zeroed n h
finished01 h short_at = zeroed 2 h

result_of01 : List ℕ → At FrameHeader → At Frame → Result
result_of01 bytes (got_at h at) whole = finished01 h whole
result_of01 bytes (refused_at n) whole = untouched n
result_of01 bytes short_at whole = untouched (cut_short bytes)

pub document01 : ℕ → List ℕ → Result
document01 room bytes = result_of01 bytes (run_at (begun01 room) bytes (place_of 0)) (run_at (frame01 room) bytes (place_of 0))

-- ---- where reading with settings is document 01's

-- in a stream of such blocks the header's block belongs to the stream, and its first sample is document 01's
pub record Alike (blocks : Option ℕ) (h : FrameHeader) : Type 0 where
  pub block : block_fits blocks h.time h.size ≡ true
  pub first : first_sample blocks h.time ≡ Some (first_own h)

module _ (set : ReaderSettings) (s : List ℕ) (none : set.given.stream ≡ None) (ok : possible set.given ≡ true)
    (alike : (h : FrameHeader) (p : Place) → run_at header s (place_of 0) ≡ got_at h p → Alike set.given.block h) where
  -- the checks after the header are document 01's
  same_checks : (h : FrameHeader) (p : Place) → run_at header s (place_of 0) ≡ got_at h p
      → run_at (checked set h) s p ≡ run_at (checked01 set.room h) s p
  unfolding checked checked01 bits_fit
  same_checks h p e =
      ap (λ b. run_at (require b 8 >>= (λ _. after_bits)) s p) (few_bits-read (header-sound s e).bits)
      ∙ alike-after (require (ltb 0 h.bits) 8) _ _ s p
      (λ _ q f. require_holds 9 _ (stays_in _ s p f) (ap (λ x. bits_fit x h.bits) none) ∙ require_holds 9 _ (stays_in _ s p f) (alike h p e).block)
    where
      after_bits : Ask FrameHeader
      after_bits = do
        require (bits_fit set.given.stream h.bits) 9
        require (block_fits set.given.block h.time h.size) 9
        require (leb (sample_count h) set.room) 7
        done h

  same-opening : run_at (opening set) s (place_of 0) ≡ run_at (opening01 set.room) s (place_of 0)
  unfolding opening opening01 completed
  same-opening =
      require_holds 11 _ (start_in s) ok
      ∙ alike-after header _ _ s (place_of 0) (λ h p e. ap (λ x. run_at (checked set (completed x h)) s p) none ∙ same_checks h p e)

  -- the header that is opened is the one that was read
  opened-header : {h : FrameHeader} {p : Place} → run_at (opening01 set.room) s (place_of 0) ≡ got_at h p → run_at header s (place_of 0) ≡ got_at h p
  unfolding opening01 checked01
  opened-header {h} {p} e =
      let a = bind_parts header _ s (place_of 0) e in
      let b = bind_parts (require (ltb 0 a.0.bits) 8) _ s a.1 a.3 in
      let b_at = require-parts _ 8 s a.1 (stays_in header s (place_of 0) a.2) b.2 in
      let c = bind_parts (require (leb (sample_count a.0) set.room) 7) _ s b.1 b.3 in
      let c_at = require-parts _ 7 s b.1 (stays_in _ s a.1 b.2) c.2 in
      let last = sym (run_at-done a.0 (stays_in _ s b.1 c.2)) ∙ c.3 in
      a.2 ∙ ap (got_at a.0) (sym b_at.1 ∙ sym c_at.1) ∙ last

  module _ (h : FrameHeader) (p : Place) (same : Alike set.given.block h) where
    whole : At Frame
    whole = run_at (body h >>= (λ xs. done (record { header = h; samples = xs }))) s p

    same-frame : (b : At FrameHeader) → result_of set.given s b whole ≡ result_of01 s b whole
    unfolding whole result_of result_of01 finished finished01 accepted accepted01
    same-frame b = go (run_at (body h) s p) refl
      where
        at : (y : At Frame) → whole ≡ y → result_of set.given s b y ≡ result_of01 s b y → result_of set.given s b whole ≡ result_of01 s b whole
        at y e f = ap (result_of set.given s b) e ∙ f ∙ sym (ap (result_of01 s b) e)

        read : (xs : List ℤ) (q : Place) (b : At FrameHeader)
            → result_of set.given s b (got_at (record { header = h; samples = xs }) q) ≡ result_of01 s b (got_at (record { header = h; samples = xs }) q)
        read xs q (got_at g r) =
            ap (λ (x : Option ℕ). record { report = record { number = 0; consumed = q.byte; first = x; rate = h.rate; channels = channel_count h.channels; bits = h.bits; size = h.size }; front = xs }) same.first
        read xs q (refused_at n) = refl
        read xs q short_at = refl

        refused : (n : ℕ) (b : At FrameHeader) → result_of set.given s b (refused_at n) ≡ result_of01 s b (refused_at n)
        refused n (got_at g r) = refl
        refused n (refused_at m) = refl
        refused n short_at = refl

        short : (b : At FrameHeader) → result_of set.given s b short_at ≡ result_of01 s b short_at
        short (got_at g r) = refl
        short (refused_at m) = refl
        short short_at = refl

        go : (w : At (List ℤ)) → run_at (body h) s p ≡ w → result_of set.given s b whole ≡ result_of01 s b whole
        go (got_at xs q) e = at _ (bind_got_lem (body h) s p _ e ∙ run_at-done _ (stays_in (body h) s p e)) (read xs q b)
        go (refused_at n) e = at _ (bind_refused (body h) s p _ e) (refused n b)
        go short_at e = at _ (bind_short (body h) s p _ e) (short b)

  -- the answer and the samples are document 01's
  pub stands : result set s ≡ document01 set.room s
  unfolding result document01 begun begun01 frame frame01 whole result_of result_of01
  stands = ap₂ (result_of set.given s) (alike-run _) (alike-run _) ∙ go (run_at (opening01 set.room) s (place_of 0)) refl
    where
      alike-run : {A : Type 0} (k : FrameHeader → Ask A) → run_at (opening set >>= k) s (place_of 0) ≡ run_at (opening01 set.room >>= k) s (place_of 0)
      alike-run k =
          run_at_bind (opening set) s (place_of 0) k ∙ ap (λ x. and_then x (λ h p. run_at (k h) s p)) same-opening ∙ sym (run_at_bind (opening01 set.room) s (place_of 0) k)

      first : At FrameHeader
      first = run_at (begun01 set.room) s (place_of 0)

      all : At Frame
      all = run_at (frame01 set.room) s (place_of 0)

      unbegun : (x : At FrameHeader) → first ≡ x → result_of set.given s x all ≡ result_of01 s x all → result_of set.given s first all ≡ result_of01 s first all
      unbegun x e f = ap (λ y. result_of set.given s y all) e ∙ f ∙ sym (ap (λ y. result_of01 s y all) e)

      go : (x : At FrameHeader) → run_at (opening01 set.room) s (place_of 0) ≡ x → result_of set.given s first all ≡ result_of01 s first all
      go (got_at h p) e =
          let f = bind_got_lem (opening01 set.room) s (place_of 0) _ e in
          ap (result_of set.given s first) f ∙ same-frame h p (alike h p (opened-header e)) first ∙ sym (ap (result_of01 s first) f)
      go (refused_at n) e = unbegun (refused_at n) (bind_refused (opening01 set.room) s (place_of 0) _ e) refl
      go short_at e = unbegun short_at (bind_short (opening01 set.room) s (place_of 0) _ e) refl

-- ---- so it is for a frame whose own size is the one given, and under variable blocking

same_size : {h : FrameHeader} (block : Option ℕ) → block ≡ Some h.size → Alike block h
unfolding block_fits first_sample first_own
same_size {h} block e = go h.time refl
  where
    go : (time : BlockTime) → h.time ≡ time → Alike block h
    go (FrameNumber n) f = record { block = rw (e, f, le-leb h.size h.size (omega arith)) refl; first = rw (e, f) refl }
    go (SampleNumber n) f = record { block = rw (e, f) refl; first = rw f refl }

module _ (given : Settings) (none : given.stream ≡ None) (room : ℕ) (s : List ℕ) {h : FrameHeader} {p : Place}
    (e : run_at header s (place_of 0) ≡ got_at h p) where
  -- there is one header
  the_header : {g : FrameHeader} {q : Place} → run_at header s (place_of 0) ≡ got_at g q → h ≡ g
  the_header f = let d = sym e ∙ f in cc

  pub own-size-stands : given.block ≡ Some h.size → result (record { given = given; room = room }) s ≡ document01 room s
  own-size-stands is =
      stands (record { given = given; room = room }) s none
      (ap₂ (λ (b : Option ℕ) (x : Option StreamRecord). possible (record { block = b; stream = x })) is none
      ∙ size-possible (header-sound s e).some (header-sound s e).size)
      (λ g q f. same_size given.block (is ∙ ap (λ (x : FrameHeader). Some x.size) (the_header f)))

  pub variable_stands : possible given ≡ true → {n : ℕ} → h.time ≡ SampleNumber n → result (record { given = given; room = room }) s ≡ document01 room s
  unfolding block_fits first_sample first_own
  variable_stands ok {n} is =
      stands (record { given = given; room = room }) s none ok
      (λ g q f. timed g given.block (ap (λ (x : FrameHeader). x.time) (sym (the_header f)) ∙ is))
    where
      timed : (g : FrameHeader) (block : Option ℕ) → g.time ≡ SampleNumber n → Alike block g
      timed g (Some size) t = record { block = rw t refl; first = rw t refl }
      timed g None t = record { block = refl; first = rw t refl }

-- each frame by itself, with the settings that its own header gives, is read as document 01 has it
pub each_by_itself : (room : ℕ) (s : List ℕ) → result (record { given = stream_settings s; room = room }) s ≡ document01 room s
unfolding stream_settings
each_by_itself room s =
    stands (record { given = stream_settings s; room = room }) s refl (stream-possible s)
    (λ h p e. same_size (stream_settings s).block (ap (λ (x : Settings). x.block) (header-settings s e)))
