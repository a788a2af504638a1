-- One step: the answer for the bytes from a place on, and the next place. Assumes nothing.
use Prim.Native.Nat.{ℕ, ◌+◌, ◌-◌, ◌*◌, ◌≤◌, ◌<◌, min}
use native.Mathlib.Nat.{min-eq_left, min-eq_right}
use native.Mathlib.Omega.{arith}
use native.Mathlib.Decide.{dec_le}
use mathlib.Core.Path.{◌≡◌, refl, ap, sym, ◌∙◌}
use mathlib.Core.List.{List}
use mathlib.Core.Bool.{Bool, true, false, cond}
use lib.Dec.{eqb}
use lib.IntN.{ℤ}
use lib.ListN.{length, take, drop, length-drop, drop_of_length-le}
use lib.Seq.{take_all}
use Rattle.std.specs.Prelude.{Option, Some, None, Result, Ok, Err, MatchResult}
use Rattle.reading.specs.Places.{place_of, refused_at, short_at, run_at}
use Rattle.reading.specs.declared.Place.{Place}
use Rattle.error.specs.Answers.{read_at}
use Rattle.rfc9639.specs.declared.FrameHeader.{FrameHeader}
use Rattle.rfc9639.specs.declared.Settings.{Settings}
use Rattle.rfc9639.specs.Header.{header}
use Rattle.rfc9639.specs.FrameByFrame.{stream_settings}
use Rattle.rfc9639.specs.Read.{Report, refusal, read}
use Rattle.error.specs.declared.Refusal.{Refusal}
use Rattle.error.specs.Numbers.{number_of, refused_by}
use Rattle.frame.specs.declared.Accepted.{Accepted}
use Rattle.frame.specs.Reads.{report_of, Reads}
use Rattle.demands.proofs.Demand3.{counted-some}
use Rattle.demands.proofs.StreamSettings.{blocks_only, header-settings, refused-settings, short-settings}
use Rattle.frame.proofs.Callers.{buffer-length, bytes-there, samples-there}
use Rattle.walk.specs.declared.Step.{Step}
use Rattle.walk.specs.Steps.{Steps}

-- nothing follows a place past the end
pub drop-lesser : (place : ℕ) (s : List ℕ) → drop (min place (length s)) s ≡ drop place s
drop-lesser place s = go (dec_le place (length s))
  where
    go : Dec (place ≤ length s) → drop (min place (length s)) s ≡ drop place s
    go (yes h) = ap (λ n. drop n s) (min-eq_left h)
    go (no h) =
        ap (λ n. drop n s) (min-eq_right {n = length s} {m = place} (omega arith)) ∙ drop_of_length-le s {i = length s} (omega arith) ∙ sym (drop_of_length-le s {i = place} (omega arith))

-- the part that is lent to `read_frame`: from the place, or from the end if the place lies past it
pub part-from-place : (s : List ℕ) (place start : ℕ) → start ≡ min place (length s) → take (length s - start) (drop start s) ≡ drop place s
part-from-place s place start e = take_all (length s - start) (drop start s) (omega (arith, length-drop start s)) ∙ ap (λ n. drop n s) e ∙ drop-lesser place s

-- the bytes that an answer consumed: a refusal consumes none
abbrev pub Consumed : Result Accepted Refusal → ℕ → Type 0
Consumed r n = MatchResult r (λ f. n ≡ f.consumed) (λ e. n ≡ 0)

module _ (s : List ℕ) (place : ℕ) (set : Settings) (b : List ℤ) {left : List ℤ} where
  -- the next place lies in the input, or where the place does
  pub next-in_range : {r : Result Accepted Refusal} → Reads (read set (drop place s) b) r left → (n : ℕ) → Consumed r n → place + n ≤ length s + (place - length s)
  next-in_range {r = Ok f} h n e = let t = bytes-there set (drop place s) b h refl in omega (arith, length-drop place s)
  next-in_range {r = Err x} h n e = omega arith

  pub next-steps : {r : Result Accepted Refusal} → Reads (read set (drop place s) b) r left → (n : ℕ) → Consumed r n
      → Steps s place set b (record { answer = r; place = place + n }) left
  unfolding refusal
  next-steps {r = Ok f} h n e = record { answer = h; next = ap (λ m. place + m) (e ∙ ap (λ (q : Report). q.consumed) h.report) }
  next-steps {r = Err x} h n e = record { answer = h; next = ap (λ m. place + m) (e ∙ ap (λ (q : Report). q.consumed) h.report) }

-- ---- the settings of a stream, by what `read_header` answered

-- the size of a header
abbrev pub SizeTaken : Result (FrameHeader × Place) Refusal → Option ℕ → Type 0
SizeTaken r o = MatchResult r (λ x. o ≡ Some x.0.size) (λ e. o ≡ None)

no_header-settings : (s : List ℕ) (e : Refusal) → run_at header s (place_of 0) ≡ refused_by e → stream_settings s ≡ blocks_only None
no_header-settings s e = go (eqb (number_of e) 2)
  where
    go : (b : Bool) → run_at header s (place_of 0) ≡ cond b short_at (refused_at (number_of e)) → stream_settings s ≡ blocks_only None
    go true f = short-settings s f
    go false f = refused-settings s f

pub first_size-settings : (s : List ℕ) (r : Result (FrameHeader × Place) Refusal) → read_at r ≡ run_at header s (place_of 0) → (o : Option ℕ) → SizeTaken r o
    → blocks_only o ≡ stream_settings s
first_size-settings s (Ok x) says o e = ap blocks_only e ∙ sym (header-settings s (sym says))
first_size-settings s (Err x) says o e = ap blocks_only e ∙ sym (no_header-settings s x (sym says))

-- ---- for callers

module _ (s : List ℕ) (place : ℕ) (set : Settings) (b : List ℤ) {r : Step} {left : List ℤ} (h : Steps s place set b r left) where
  pub left-length : length left ≡ length b
  left-length = buffer-length set (drop place s) b h.answer

  module _ {f : Accepted} (e : r.answer ≡ Ok f) where
    reported : report_of (Ok f) ≡ (read set (drop place s) b).report
    reported = ap report_of (sym e) ∙ h.answer.report

    -- a frame has at least one byte
    pub frame-moves-place : place < r.place
    frame-moves-place = omega (arith, h.next, counted-some set (drop place s) b (sym (ap (λ (q : Report). q.number) reported)))

    -- and its bytes lie in the input
    pub place_in_input : r.place ≤ length s
    place_in_input =
        let t = bytes-there set (drop place s) b h.answer e in
        let g = frame-moves-place in
        omega (arith, h.next, ap (λ (q : Report). q.consumed) reported, length-drop place s)

    pub frame-samples-fit : f.channels * f.size ≤ length b
    frame-samples-fit = samples-there set (drop place s) b h.answer e
