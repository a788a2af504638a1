-- A whole input, frame by frame: the list of answers, one step at a time. Assumes nothing.
use Prim.Native.Nat.{ℕ, zero, suc, ◌≤◌, ◌<◌}
use native.Mathlib.Omega.{arith}
use mathlib.Core.Bool.{Bool, true, false}
use mathlib.Core.Logic.{◌≢◌}
use mathlib.Core.Path.{◌≡◌, refl, ap, sym, ◌∙◌, subst}
use mathlib.Core.List.{List, [], ◌∷◌, ◌++◌}
use lib.ListN.{length, take, drop, length-drop}
use Rattle.reading.specs.declared.Place.{Place}
use Rattle.reading.specs.Readers.{bits_from, reply, follow, run, ◌>>=◌, bits}
use Rattle.reading.specs.Bytes.{bits_of_bytes}
use Rattle.reading.specs.Places.{place_of, At, got_at, refused_at, short_at, run_at, inside, to_at}
use Rattle.reading.proofs.ByteRuns.{bind_refused, bind_short}
use Rattle.reading.proofs.Postconditions.{Meets, holds_at}
use Rattle.rfc9639.specs.declared.FrameHeader.{FrameHeader}
use Rattle.rfc9639.specs.Header.{sync, codes, header}
use Rattle.rfc9639.specs.Stream.{possible}
use Rattle.rfc9639.specs.Frame.{ReaderSettings, opening, Frame, frame}
use Rattle.rfc9639.specs.Read.{Result, refusal, accepted, untouched, zeroed, cut_short, begun, finished, result_of, result}
use Rattle.rfc9639.specs.FrameByFrame.{Verdict, accept, undecided, refuse, verdict_of, verdict, goes_on, answers_up_to, answers}
use Rattle.demands.proofs.Headers.{Listed, Early}
use Rattle.demands.proofs.FrameSamples.{HeaderInRoom, FrameInRoom, begun_holds, frame_holds}
use Rattle.demands.proofs.Results
use Rattle.demands.proofs.ResultCases as cases

-- ---- verdicts and numbers

pub accept-zero : (n : ℕ) → verdict_of n ≡ accept → n ≡ 0
unfolding verdict_of
accept-zero zero e = refl
accept-zero (suc zero) e = cc
accept-zero (suc (suc zero)) e = cc
accept-zero (suc (suc (suc n))) e = cc

pub undecided-two : (n : ℕ) → verdict_of n ≡ undecided → (1 ≤ n) × (n ≤ 2)
unfolding verdict_of
undecided-two zero e = cc
undecided-two (suc zero) e = (omega arith, omega arith)
undecided-two (suc (suc zero)) e = (omega arith, omega arith)
undecided-two (suc (suc (suc n))) e = cc

-- equal numbers have the same verdict
pub verdict_is : {n m : ℕ} {k : Verdict} → n ≡ m → verdict_of m ≡ k → verdict_of n ≡ k
verdict_is e f = ap verdict_of e ∙ f

-- ---- the laws of a reading of one frame

-- More bytes never change a decided answer; an accepted frame's consumed bytes are there; and there is at least one.
pub record Lawful (one : List ℕ → Result) : Type 0 where
  pub extended : (s t : List ℕ) → (verdict (one s) ≡ undecided → ⊥) → one (s ++ t) ≡ one s
  pub there : (s : List ℕ) → verdict (one s) ≡ accept → (one s).report.consumed ≤ length s
  pub some : (s : List ℕ) → verdict (one s) ≡ accept → 0 < (one s).report.consumed

-- A refusal consumes no bytes. An answer that more bytes may change is 2, or 1 for an empty input.
pub record Numbered (one : List ℕ → Result) : Type 0 where
  pub bare : (s : List ℕ) → (verdict (one s) ≡ accept → ⊥) → (one s).report.consumed ≡ 0
  pub cut : (s : List ℕ) → verdict (one s) ≡ undecided → (one s).report.number ≡ cut_short s

-- An accepted frame's consumed bytes suffice for its answer, and no fewer do.
pub record Counted (one : List ℕ → Result) : Type 0 where
  pub suffice : (s : List ℕ) → verdict (one s) ≡ accept → one (take (one s).report.consumed s) ≡ one s
  pub fewer : (s : List ℕ) → verdict (one s) ≡ accept → (m : ℕ) → m < (one s).report.consumed → verdict (one (take m s)) ≡ undecided

-- ---- the list, one step at a time

module _ {one : List ℕ → Result} (law : Lawful one) where
  abbrev rest : List ℕ → List ℕ
  rest s = drop (one s).report.consumed s

  -- after a frame fewer bytes are left
  rest-less : (s : List ℕ) → verdict (one s) ≡ accept → length (rest s) < length s
  rest-less s e = let a = law.there s e in let b = law.some s e in omega (arith, length-drop (one s).report.consumed s)

  -- the limit on the number of answers does not matter once it is above the number of bytes
  enough : (n m : ℕ) (s : List ℕ) → length s < n → length s < m → answers_up_to n one s ≡ answers_up_to m one s
  unfolding answers_up_to goes_on
  enough zero m s h g = absurd (omega arith)
  enough (suc n) zero s h g = absurd (omega arith)
  enough (suc n) (suc m) s h g = ap (λ (l : List Result). one s ∷ l) (go (verdict (one s)) refl (enough n m (rest s)))
    where
      go : (k : Verdict) → verdict (one s) ≡ k → (length (rest s) < n → length (rest s) < m → answers_up_to n one (rest s) ≡ answers_up_to m one (rest s))
          → goes_on k (answers_up_to n one (rest s)) ≡ goes_on k (answers_up_to m one (rest s))
      go accept e again = let l = rest-less s e in again (omega arith) (omega arith)
      go undecided e again = refl
      go refuse e again = refl

  -- the first answer and, after a frame, the answers to what follows it
  pub answers_unrolled : (s : List ℕ) → answers one s ≡ one s ∷ goes_on (verdict (one s)) (answers one (rest s))
  unfolding answers answers_up_to goes_on
  answers_unrolled s = ap (λ (l : List Result). one s ∷ l) (go (verdict (one s)) refl)
    where
      go : (k : Verdict) → verdict (one s) ≡ k → goes_on k (answers_up_to (length s) one (rest s)) ≡ goes_on k (answers_up_to (suc (length (rest s))) one (rest s))
      go accept e = let l = rest-less s e in enough (length s) (suc (length (rest s))) (rest s) (omega arith) (omega arith)
      go undecided e = refl
      go refuse e = refl

-- ---- the definition's reading obeys these laws

pub no_header : run_at header [] (place_of 0) ≡ short_at
unfolding header codes sync bits ◌>>=◌ run_at inside to_at run follow reply bits_from bits_of_bytes
no_header = refl

module _ (set : ReaderSettings) where
  pub nothing_left : possible set.given ≡ true → (result set []).report.number ≡ 1
  unfolding untouched refusal cut_short
  nothing_left ok = ap (λ (r : Result). r.report.number) (cases.header-short set [] ok no_header)

  -- a frame is accepted only under settings that a stream can have
  pub accepted-possible : (s : List ℕ) → (result set s).report.number ≡ 0 → possible set.given ≡ true
  unfolding untouched refusal
  accepted-possible s z = go (possible set.given) refl
    where
      go : (b : Bool) → possible set.given ≡ b → possible set.given ≡ true
      go true e = e
      go false e = absurd (omega (arith, ap (λ (r : Result). r.report.number) (cases.impossible set s e)))

  -- An accepted frame has at least one byte: its consumed bytes alone are a frame, and an empty input is none.
  pub some_byte : (s : List ℕ) → (result set s).report.number ≡ 0 → 0 < (result set s).report.consumed
  some_byte s z = go (result set s).report.consumed refl
    where
      go : (n : ℕ) → (result set s).report.consumed ≡ n → 0 < n
      go zero e =
          absurd
          (let same = sym (ap (λ n. result set (take n s)) e) ∙ Results.suffice set s z in
          let one = nothing_left (accepted-possible s z) in
          omega (arith, ap (λ (r : Result). r.report.number) same))
      go (suc n) e = omega arith

  pub lawful : Lawful (result set)
  unfolding verdict_of
  lawful = record {
    extended = λ s t known. Results.extended set s t (λ e. known (verdict_is e refl)) (λ e. known (verdict_is e refl));
    there = λ s e. Results.there set s (accept-zero (result set s).report.number e);
    some = λ s e. some_byte s (accept-zero (result set s).report.number e);
  }

  -- every answer but a frame is a refusal, which consumes no bytes
  pub bare : (s : List ℕ) → (result set s).report.number ≢ 0 → (result set s).report.consumed ≡ 0
  unfolding result result_of finished untouched zeroed refusal accepted
  bare s = go (run_at (begun set) s (place_of 0)) (run_at (frame set) s (place_of 0))
    where
      go : (x : At FrameHeader) (y : At Frame) → (result_of set.given s x y).report.number ≢ 0 → (result_of set.given s x y).report.consumed ≡ 0
      go (got_at h p) (got_at f end) n = absurd (n refl)
      go (got_at h p) (refused_at m) n = refl
      go (got_at h p) short_at n = refl
      go (refused_at m) y n = refl
      go short_at y n = refl

  not_begun : {h : FrameHeader} {p : Place} → run_at (begun set) [] (place_of 0) ≡ got_at h p → ⊥
  unfolding begun
  not_begun e = go (possible set.given) refl
    where
      go : (b : Bool) → possible set.given ≡ b → ⊥
      go true ok =
          let f = sym (bind_short (opening set) [] (place_of 0) _ (cases.opening-short set [] ok no_header)) ∙ e in
          cc
      go false bad =
          let f = sym (bind_refused (opening set) [] (place_of 0) _ (cases.not_opened set [] bad)) ∙ e in
          cc

  -- cut short is 1 for an empty input, else 2
  pub cut : (s : List ℕ) → 1 ≤ (result set s).report.number → (result set s).report.number ≤ 2 → (result set s).report.number ≡ cut_short s
  unfolding result result_of finished untouched zeroed refusal accepted cut_short
  cut s = go (run_at (begun set) s (place_of 0)) refl (run_at (frame set) s (place_of 0)) refl
    where
      begun-some : (s : List ℕ) {h : FrameHeader} {p : Place} → run_at (begun set) s (place_of 0) ≡ got_at h p → 2 ≡ cut_short s
      begun-some [] e = absurd (not_begun e)
      begun-some (b ∷ s) e = refl

      go : (x : At FrameHeader) → run_at (begun set) s (place_of 0) ≡ x → (y : At Frame) → run_at (frame set) s (place_of 0) ≡ y
          → 1 ≤ (result_of set.given s x y).report.number → (result_of set.given s x y).report.number ≤ 2 → (result_of set.given s x y).report.number ≡ cut_short s
      go (got_at h p) e (got_at f end) g a b = absurd (omega arith)
      go (got_at h p) e (refused_at n) g a b = absurd (omega (arith, subst (Meets Listed (FrameInRoom set)) g (holds_at Listed (FrameInRoom set) s (place_of 0) (frame_holds set))))
      go (got_at h p) e short_at g a b = begun-some s e
      go (refused_at n) e y g a b = absurd (omega (arith, subst (Meets Early (HeaderInRoom set)) e (holds_at Early (HeaderInRoom set) s (place_of 0) (begun_holds set))))
      go short_at e y g a b = refl

  pub numbered : Numbered (result set)
  unfolding verdict_of
  numbered = record {
    bare = λ s n. bare s (λ e. n (verdict_is e refl));
    cut = λ s e. let b = undecided-two (result set s).report.number e in cut s b.0 b.1;
  }

  pub counted : Counted (result set)
  unfolding verdict_of
  counted = record {
    suffice = λ s e. Results.suffice set s (accept-zero (result set s).report.number e);
    fewer = λ s e. elim [
      | zero ↦ λ l. verdict_is (nothing_left (accepted-possible s (accept-zero (result set s).report.number e))) refl
      | suc m ↦ λ l. verdict_is (Results.fewer set s (accept-zero (result set s).report.number e) (suc m) (omega arith) l) refl
    ];
  }
