-- The definition's result by its two runs: on longer and shorter inputs, and with more room. Assumes nothing.
use Prim.Native.Nat.{ℕ, zero, suc, ◌*◌, ◌≤◌, ◌<◌}
use native.Mathlib.Omega.{arith}
use native.Mathlib.Decide.{dec_le}
use mathlib.Core.Logic.{◌≢◌}
use mathlib.Core.Path.{◌≡◌, refl, ap, ap₂, sym, ◌∙◌, subst}
use mathlib.Core.List.{List, [], ◌∷◌, ◌++◌}
use lib.IntN.{pos}
use lib.ListN.{length, take, length-replicate}
use Rattle.reading.specs.declared.Place.{Place}
use Rattle.reading.specs.Readers.{Ask, ◌>>=◌}
use Rattle.reading.specs.Places.{position, place_of, At, got_at, refused_at, short_at, run_at, and_then}
use Rattle.reading.proofs.ByteRuns.{run_at_bind, bind_refused}
use Rattle.reading.proofs.BytePrefixes.{run_at_append, run_at_forward, run_at-take, run_at-take-short}
use Rattle.reading.proofs.Postconditions.{Meets, holds_at}
use Rattle.rfc9639.specs.declared.FrameHeader.{FrameHeader}
use Rattle.rfc9639.specs.declared.Settings.{Settings}
use Rattle.rfc9639.specs.Header.{sample_count}
use Rattle.rfc9639.specs.Frame.{ReaderSettings, opening, Frame, frame}
use Rattle.rfc9639.specs.Read.{refusal, accepted, Result, untouched, zeroed, cut_short, begun, finished, result_of, result}
use Rattle.demands.proofs.Headers.{Listed, Early}
use Rattle.demands.proofs.FrameRuns.{frame-begun, opening-more}
use Rattle.demands.proofs.FrameSamples.{HeaderInRoom, FrameInRoom, opening_holds, begun_holds, frame_holds}

got-short : {A : Type 0} (a : A) (p : Place) → got_at a p ≡ short_at → ⊥
got-short a p e = cc

refused-short : {A : Type 0} (n : ℕ) → ◌≡◌ {A = At A} (refused_at n) short_at → ⊥
refused-short n e = cc

-- `cut_short` is 1 or 2
pub cut-number : (s : List ℕ) → (cut_short s ≡ 0 → ⊥) × (cut_short s ≤ 2)
unfolding cut_short
cut-number [] = (λ e. omega arith, omega arith)
cut-number (b ∷ s) = (λ e. omega arith, omega arith)

cut-either : (s : List ℕ) → cut_short s ≢ 1 → cut_short s ≢ 2 → ⊥
unfolding cut_short
cut-either [] one two = one refl
cut-either (b ∷ s) one two = two refl

cut-two : (m : ℕ) (s : List ℕ) → 0 < m → m ≤ length s → cut_short (take m s) ≡ 2
unfolding cut_short
cut-two zero s h l = absurd (omega arith)
cut-two (suc m) [] h l = absurd (omega arith)
cut-two (suc m) (b ∷ s) h l = refl

-- ---- what a result says about the two runs

module _ (set : ReaderSettings) (s : List ℕ) where
  -- a frame was read
  pub record Read (r : Result) : Type 0 where
    pub whole : Frame
    pub end : Place
    pub place : Place
    pub opened : run_at (begun set) s (place_of 0) ≡ got_at whole.header place
    pub ran : run_at (frame set) s (place_of 0) ≡ got_at whole end
    pub aligned : end.bit ≡ 0
    pub is : r ≡ record { report = accepted set.given whole.header end; front = whole.samples }

  had_begun : {f : Frame} {end : Place} → run_at (frame set) s (place_of 0) ≡ got_at f end
      → (end.bit ≡ 0) × ((p : Place) × (run_at (begun set) s (place_of 0) ≡ got_at f.header p))
  had_begun e =
      frame-begun set s (place_of 0)
      (λ h p o. (subst (Meets Early (HeaderInRoom set)) o (holds_at Early (HeaderInRoom set) s (place_of 0) (opening_holds set))).sound.mono)
      e

  -- the result where a frame was read
  pub frame-result : {f : Frame} {end : Place} → run_at (frame set) s (place_of 0) ≡ got_at f end → result set s ≡ record { report = accepted set.given f.header end; front = f.samples }
  unfolding result result_of finished
  frame-result e = ap₂ (result_of set.given s) (had_begun e).1.1 e

  frame-read : {f : Frame} {end : Place} → run_at (frame set) s (place_of 0) ≡ got_at f end → Read (result set s)
  frame-read {f} {end} e = record {
    whole = f;
    end = end;
    place = (had_begun e).1.0;
    opened = (had_begun e).1.1;
    ran = e;
    aligned = (had_begun e).0;
    is = frame-result e;
  }

  -- number 0 means that a frame was read
  pub zero-read : (result set s).report.number ≡ 0 → Read (result set s)
  unfolding result result_of finished untouched zeroed refusal cut_short
  zero-read z = go (run_at (begun set) s (place_of 0)) refl (run_at (frame set) s (place_of 0)) refl z
    where
      go : (x : At FrameHeader) → run_at (begun set) s (place_of 0) ≡ x → (y : At Frame) → run_at (frame set) s (place_of 0) ≡ y
          → (result_of set.given s x y).report.number ≡ 0 → Read (result set s)
      go (got_at h p) e (got_at f end) g z = frame-read g
      go (got_at h p) e (refused_at n) g z = absurd (omega (arith, subst (Meets Listed (FrameInRoom set)) g (holds_at Listed (FrameInRoom set) s (place_of 0) (frame_holds set))))
      go (got_at h p) e short_at g z = absurd (omega arith)
      go (refused_at n) e y g z = absurd (omega (arith, subst (Meets Early (HeaderInRoom set)) e (holds_at Early (HeaderInRoom set) s (place_of 0) (begun_holds set))))
      go short_at e y g z = absurd ((cut-number s).0 z)

  -- every number is a listed one
  pub number-listed : (result set s).report.number ≤ 11
  unfolding result result_of finished untouched zeroed refusal accepted
  number-listed = go (run_at (begun set) s (place_of 0)) refl (run_at (frame set) s (place_of 0)) refl
    where
      go : (x : At FrameHeader) → run_at (begun set) s (place_of 0) ≡ x → (y : At Frame) → run_at (frame set) s (place_of 0) ≡ y → (result_of set.given s x y).report.number ≤ 11
      go (got_at h p) e (got_at f end) g = omega arith
      go (got_at h p) e (refused_at n) g = omega (arith, subst (Meets Listed (FrameInRoom set)) g (holds_at Listed (FrameInRoom set) s (place_of 0) (frame_holds set)))
      go (got_at h p) e short_at g = omega arith
      go (refused_at n) e y g = omega (arith, subst (Meets Early (HeaderInRoom set)) e (holds_at Early (HeaderInRoom set) s (place_of 0) (begun_holds set)))
      go short_at e y g = omega (arith, (cut-number s).1)

  -- the samples that are written have room
  pub front-room : length (result set s).front ≤ set.room
  unfolding result result_of finished untouched zeroed
  front-room = go (run_at (begun set) s (place_of 0)) refl (run_at (frame set) s (place_of 0)) refl
    where
      opened : {h : FrameHeader} {p : Place} → run_at (begun set) s (place_of 0) ≡ got_at h p → HeaderInRoom set h
      opened e = subst (Meets Early (HeaderInRoom set)) e (holds_at Early (HeaderInRoom set) s (place_of 0) (begun_holds set))

      go : (x : At FrameHeader) → run_at (begun set) s (place_of 0) ≡ x → (y : At Frame) → run_at (frame set) s (place_of 0) ≡ y
          → length (result_of set.given s x y).front ≤ set.room
      go (got_at h p) e (got_at f end) g =
          let w = subst (Meets Listed (FrameInRoom set)) g (holds_at Listed (FrameInRoom set) s (place_of 0) (frame_holds set)) in omega (arith, w.samples.count, w.header.room)
      go (got_at h p) e (refused_at n) g = omega (arith, length-replicate (sample_count h) (pos 0), (opened e).room)
      go (got_at h p) e short_at g = omega (arith, length-replicate (sample_count h) (pos 0), (opened e).room)
      go (refused_at n) e y g = omega arith
      go short_at e y g = omega arith

  -- ---- longer inputs

  pub extended : (t : List ℕ) → (result set s).report.number ≢ 1 → (result set s).report.number ≢ 2 → result set (s ++ t) ≡ result set s
  unfolding result result_of finished untouched zeroed refusal
  extended t one two = go (run_at (begun set) s (place_of 0)) refl (run_at (frame set) s (place_of 0)) refl one two
    where
      longer : {A : Type 0} (p : Ask A) {x : At A} → run_at p s (place_of 0) ≡ x → (x ≡ short_at → ⊥) → run_at p (s ++ t) (place_of 0) ≡ x
      longer p e n = run_at_append p s (place_of 0) t (λ q. n (sym e ∙ q)) ∙ e

      go : (x : At FrameHeader) → run_at (begun set) s (place_of 0) ≡ x → (y : At Frame) → run_at (frame set) s (place_of 0) ≡ y
          → (result_of set.given s x y).report.number ≢ 1 → (result_of set.given s x y).report.number ≢ 2
          → result_of set.given (s ++ t) (run_at (begun set) (s ++ t) (place_of 0)) (run_at (frame set) (s ++ t) (place_of 0)) ≡ result_of set.given s x y
      go (got_at h p) e (got_at f end) g one two = ap₂ (result_of set.given (s ++ t)) (longer (begun set) e (got-short h p)) (longer (frame set) g (got-short f end))
      go (got_at h p) e (refused_at n) g one two = ap₂ (result_of set.given (s ++ t)) (longer (begun set) e (got-short h p)) (longer (frame set) g (refused-short n))
      go (got_at h p) e short_at g one two = absurd (two refl)
      go (refused_at n) e y g one two =
          ap (λ x. result_of set.given (s ++ t) x (run_at (frame set) (s ++ t) (place_of 0))) (longer (begun set) e (refused-short n))
      go short_at e y g one two = absurd (cut-either s one two)

-- ---- an accepted frame and its beginnings

module _ (set : ReaderSettings) (s : List ℕ) (z : (result set s).report.number ≡ 0) where
  abbrev r : Read set s (result set s)
  r = zero-read set s z

  -- its consumed bytes end where the run ended
  consumed_is : (result set s).report.consumed ≡ r.end.byte
  unfolding accepted
  consumed_is = ap (λ q. q.report.consumed) r.is

  whole-bytes : position r.end ≡ 8 * r.end.byte
  whole-bytes = let a = r.aligned in omega arith

  pub there : (result set s).report.consumed ≤ length s
  there = let f = run_at_forward (frame set) s (place_of 0) r.whole r.end r.ran in omega (arith, f.1, whole-bytes, consumed_is)

  pub suffice : result set (take (result set s).report.consumed s) ≡ result set s
  suffice =
      ap (λ n. result set (take n s)) consumed_is
      ∙ (frame-result set (take r.end.byte s) (run_at-take (frame set) s (place_of 0) r.whole r.end r.ran r.end.byte (omega (arith, whole-bytes)))
      ∙ sym r.is)

  pub fewer : (m : ℕ) → 0 < m → m < (result set s).report.consumed → (result set (take m s)).report.number ≡ 2
  unfolding result result_of finished zeroed untouched refusal
  fewer m some l = go (dec_le (position r.place) (8 * m))
    where
      short : run_at (frame set) (take m s) (place_of 0) ≡ short_at
      short = run_at-take-short (frame set) s (place_of 0) r.whole r.end r.ran m (omega (arith, whole-bytes, consumed_is))

      go : Dec (position r.place ≤ 8 * m)
          → (result_of set.given (take m s) (run_at (begun set) (take m s) (place_of 0)) (run_at (frame set) (take m s) (place_of 0))).report.number ≡ 2
      go (yes h) =
          ap (λ x. x.report.number)
          (ap₂ (result_of set.given (take m s)) (run_at-take (begun set) s (place_of 0) r.whole.header r.place r.opened m h) short)
      go (no h) =
          ap (λ x. x.report.number)
          (ap₂ (result_of set.given (take m s)) (run_at-take-short (begun set) s (place_of 0) r.whole.header r.place r.opened m (omega arith)) short)
          ∙ cut-two m s some (omega (arith, there))

-- ---- more room

module _ (given : Settings) (room room' : ℕ) (more : room ≤ room') (s : List ℕ) where
  abbrev small : ReaderSettings
  small = record { given = given; room = room }

  abbrev large : ReaderSettings
  large = record { given = given; room = room' }

  pub roomier : (result small s).report.number ≢ 7 → result large s ≡ result small s
  unfolding result result_of untouched refusal begun frame
  roomier lacks =
      let same = opening-more given room room' more s (place_of 0) (λ e. lacks (ap (λ x. (result_of given s x (run_at (frame small) s (place_of 0))).report.number) (bind_refused (opening small) s (place_of 0) _ e))) in
      ap₂ (result_of given s) (alike _ same) (alike _ same)
    where
      alike : {A : Type 0} (k : FrameHeader → Ask A) → run_at (opening large) s (place_of 0) ≡ run_at (opening small) s (place_of 0)
          → run_at (opening large >>= k) s (place_of 0) ≡ run_at (opening small >>= k) s (place_of 0)
      alike k e =
          run_at_bind (opening large) s (place_of 0) k ∙ ap (λ x. and_then x (λ h p. run_at (k h) s p)) e ∙ sym (run_at_bind (opening small) s (place_of 0) k)
