-- DOCUMENT 01'S TABLE: what the samples buffer holds after each refusal, for all settings, inputs and buffers. Assumes
-- nothing.
use Prim.Native.Nat.{ℕ}
use native.Mathlib.Omega.{arith}
use mathlib.Core.Logic.{◌≢◌, ◌⊎◌, inl, inr}
use mathlib.Core.Bool.{Bool, true, false, ◌||◌}
use mathlib.Core.Path.{◌≡◌, refl, ap, ap₂, sym, ◌∙◌, subst}
use mathlib.Core.List.{List, ◌++◌}
use lib.Dec.{eqb}
use lib.IntN.{ℤ, pos}
use lib.ListN.{length, drop, replicate, length-replicate}
use Rattle.reading.specs.declared.Place.{Place}
use Rattle.reading.specs.Readers.{◌>>=◌, done, bits}
use Rattle.reading.specs.Places.{place_of, At, got_at, refused_at, short_at, run_at}
use Rattle.reading.proofs.ByteRuns.{bind_parts, bind_got_lem, bind_refused, bind_short, stays_in, run_at-done}
use Rattle.reading.proofs.Postconditions.{Meets, holds_at, Sized}
use Rattle.rfc9639.specs.declared.FrameHeader.{FrameHeader}
use Rattle.rfc9639.specs.declared.Settings.{Settings}
use Rattle.rfc9639.specs.Header.{sample_count}
use Rattle.rfc9639.specs.Frame.{ReaderSettings, opening, body, Frame, frame}
use Rattle.rfc9639.specs.Read.{refusal, accepted, Result, untouched, zeroed, begun, finished, result_of, result, read}
use Rattle.demands.proofs.Headers.{Early, Late, forbidden, not_done, bad_shape, frame-sum}
use Rattle.demands.proofs.Results.{cut-number}
use Rattle.demands.proofs.FrameSamples.{HeaderInRoom, begun_holds, body_holds, Sample}

-- Refusals 1, 3, 5, 6, 7 and 11 leave the buffer as it was; 10 leaves its first N samples zero; 2, 4, 8 and 9 do the one or
-- the other, by whether the first subframe's first bit was read. N is the header's channels times its block size. The
-- samples after the first N are never touched.

-- the buffer with its first N samples zero
abbrev pub cleared : FrameHeader → List ℤ → List ℤ
cleared h b = replicate (sample_count h) (pos 0) ++ drop (sample_count h) b

-- `Late` as a test
abbrev late : ℕ → Bool
late n = eqb n 4 || (eqb n 8 || (eqb n 9 || eqb n 10))

late-true : {n : ℕ} → Late n → late n ≡ true
late-true forbidden = refl
late-true not_done = refl
late-true bad_shape = refl
late-true frame-sum = refl

module _ (given : Settings) (s : List ℕ) (b : List ℤ) where
  abbrev set : ReaderSettings
  set = record { given = given; room = length b }

  -- this header was read, and then the first bit of the first subframe
  abbrev pub Begun : FrameHeader → Type 0
  Begun h = (at : Place) × (run_at (begun set) s (place_of 0) ≡ got_at h at)

  abbrev pub NotBegun : Type 0
  NotBegun = (h : FrameHeader) → Begun h → ⊥

  abbrev filled : Result → List ℤ
  filled r = r.front ++ drop (length r.front) b

  filled-zeros : (n : ℕ) (h : FrameHeader) → filled (zeroed n h) ≡ cleared h b
  unfolding zeroed
  filled-zeros n h = ap (λ k. replicate (sample_count h) (pos 0) ++ drop k b) (length-replicate (sample_count h) (pos 0))

  -- ---- a frame that has begun

  -- once a frame has begun, only its subframes or its footer can refuse it
  begun-late : {h : FrameHeader} {at : Place} {n : ℕ} → run_at (begun set) s (place_of 0) ≡ got_at h at → run_at (frame set) s (place_of 0) ≡ refused_at n → Late n
  unfolding begun frame
  begun-late {h} {at} {n} e f =
      let a = bind_parts (opening set) (λ g. bits 1 >>= (λ bit. done g)) s (place_of 0) e in
      go a.0 a.1 (run_at (body a.0) s a.1) refl (sym (bind_got_lem (opening set) s (place_of 0) _ a.2) ∙ f)
    where
      go : (g : FrameHeader) (p : Place) (x : At (List ℤ)) → run_at (body g) s p ≡ x
          → run_at {A = Frame} (body g >>= (λ xs. done (record { header = g; samples = xs }))) s p ≡ refused_at n → Late n
      go g p (got_at xs q) e f =
          absurd
          (let d = sym (bind_got_lem (body g) s p _ e ∙ run_at-done _ (stays_in (body g) s p e)) ∙ f in
          cc)
      go g p (refused_at m) e f =
          let same : m ≡ n = (let d = sym (bind_refused (body g) s p _ e) ∙ f in cc) in
          subst Late same (subst (Meets Late (Sized (sample_count g) Sample)) e (holds_at Late (Sized (sample_count g) Sample) s p (body_holds g)))
      go g p short_at e f = absurd (let d = sym (bind_short (body g) s p _ e) ∙ f in cc)

  -- ---- facts that give the rows

  abbrev number : ℕ
  number = (read given s b).report.number

  -- the result, by its two runs
  ran : {x : At FrameHeader} {y : At Frame} → run_at (begun set) s (place_of 0) ≡ x → run_at (frame set) s (place_of 0) ≡ y → result set s ≡ result_of given s x y
  unfolding result
  ran e f = ap₂ (result_of given s) e f

  number_is : {r : Result} → result set s ≡ r → number ≡ r.report.number
  unfolding read
  number_is e = ap (λ (q : Result). q.report.number) e

  buffer_is : {r : Result} → result set s ≡ r → (read given s b).buffer ≡ filled r
  unfolding read
  buffer_is e = ap filled e

  -- a refusal after the start clears the samples that the frame would fill
  pub begun-clears : {h : FrameHeader} → number ≢ 0 → Begun h → (read given s b).buffer ≡ cleared h b
  unfolding result_of finished accepted
  begun-clears {h} some g = go (run_at (frame set) s (place_of 0)) refl
    where
      go : (y : At Frame) → run_at (frame set) s (place_of 0) ≡ y → (read given s b).buffer ≡ cleared h b
      go (got_at f end) e = absurd (some (number_is (ran g.1 e)))
      go (refused_at n) e = buffer_is (ran g.1 e) ∙ filled-zeros n h
      go short_at e = buffer_is (ran g.1 e) ∙ filled-zeros 2 h

  -- a frame that has not begun leaves the buffer as it was
  pub unbegun-keeps : NotBegun → (read given s b).buffer ≡ b
  unfolding result_of untouched
  unbegun-keeps none = go (run_at (begun set) s (place_of 0)) refl
    where
      go : (x : At FrameHeader) → run_at (begun set) s (place_of 0) ≡ x → (read given s b).buffer ≡ b
      go (got_at h at) e = absurd (none h (at, e))
      go (refused_at n) e = buffer_is (ran e refl)
      go short_at e = buffer_is (ran e refl)

  -- once a frame has begun, it is accepted, cut short, or refused by its subframes or its footer
  begun-number : {h : FrameHeader} → Begun h → (number ≡ 0) ⊎ ((number ≡ 2) ⊎ Late number)
  unfolding result_of finished accepted zeroed refusal
  begun-number {h} g = go (run_at (frame set) s (place_of 0)) refl
    where
      go : (y : At Frame) → run_at (frame set) s (place_of 0) ≡ y → (number ≡ 0) ⊎ ((number ≡ 2) ⊎ Late number)
      go (got_at f end) e = inl (number_is (ran g.1 e))
      go (refused_at n) e = inr (inr (subst Late (sym (number_is (ran g.1 e))) (begun-late g.1 e)))
      go short_at e = inr (inl (number_is (ran g.1 e)))

  -- so every other number is given before the subframes
  not_begun : {n : ℕ} → number ≡ n → n ≢ 0 → n ≢ 2 → late n ≡ false → NotBegun
  not_begun {n} e some cut early h g = go (begun-number g)
    where
      go : (number ≡ 0) ⊎ ((number ≡ 2) ⊎ Late number) → ⊥
      go (inl z) = some (sym e ∙ z)
      go (inr (inl z)) = cut (sym e ∙ z)
      go (inr (inr l)) = let y : late n ≡ true = late-true (subst Late e l) in cc

  keeps : {n : ℕ} → number ≡ n → n ≢ 0 → n ≢ 2 → late n ≡ false → (read given s b).buffer ≡ b
  keeps e some cut early = unbegun-keeps (not_begun e some cut early)

  -- the footer's refusal is given after they have begun
  sum-begun : number ≡ 10 → (h : FrameHeader) × Begun h
  unfolding result_of untouched refusal
  sum-begun e = go (run_at (begun set) s (place_of 0)) refl
    where
      go : (x : At FrameHeader) → run_at (begun set) s (place_of 0) ≡ x → (h : FrameHeader) × Begun h
      go (got_at h at) f = (h, (at, f))
      go (refused_at n) f =
          absurd (omega (arith, e, number_is (ran f refl), subst (Meets Early (HeaderInRoom set)) f (holds_at Early (HeaderInRoom set) s (place_of 0) (begun_holds set))))
      go short_at f = absurd (omega (arith, e, number_is (ran f refl), (cut-number s).1))

  -- ---- the table

  -- where the first subframe's first bit was read, the first N samples are zero; else the buffer is as it was
  pub record ByStart : Type 0 where
    pub before : NotBegun → (read given s b).buffer ≡ b
    pub after : (h : FrameHeader) → Begun h → (read given s b).buffer ≡ cleared h b

  by_start : number ≢ 0 → ByStart
  by_start some = record { before = unbegun-keeps; after = λ h g. begun-clears some g }

  pub record Table : Type 0 where
    pub row_1 : number ≡ 1 → (read given s b).buffer ≡ b
    pub row_2 : number ≡ 2 → ByStart
    pub row_3 : number ≡ 3 → (read given s b).buffer ≡ b
    pub row_4 : number ≡ 4 → ByStart
    pub row_5 : number ≡ 5 → (read given s b).buffer ≡ b
    pub row_6 : number ≡ 6 → (read given s b).buffer ≡ b
    pub row_7 : number ≡ 7 → (read given s b).buffer ≡ b
    pub row_8 : number ≡ 8 → ByStart
    pub row_9 : number ≡ 9 → ByStart
    pub row_10 : number ≡ 10 → (h : FrameHeader) × Begun h × ((read given s b).buffer ≡ cleared h b)
    pub row_11 : number ≡ 11 → (read given s b).buffer ≡ b

  pub table : Table
  table = record {
    row_1 = λ e. keeps e (λ z. omega arith) (λ z. omega arith) refl;
    row_2 = λ e. by_start (λ z. omega arith);
    row_3 = λ e. keeps e (λ z. omega arith) (λ z. omega arith) refl;
    row_4 = λ e. by_start (λ z. omega arith);
    row_5 = λ e. keeps e (λ z. omega arith) (λ z. omega arith) refl;
    row_6 = λ e. keeps e (λ z. omega arith) (λ z. omega arith) refl;
    row_7 = λ e. keeps e (λ z. omega arith) (λ z. omega arith) refl;
    row_8 = λ e. by_start (λ z. omega arith);
    row_9 = λ e. by_start (λ z. omega arith);
    row_10 = λ e. let g = sum-begun e in (g.0, g.1, begun-clears (λ z. omega arith) g.1);
    row_11 = λ e. keeps e (λ z. omega arith) (λ z. omega arith) refl;
  }
