-- THE STEPS GIVE THE LIST: a run of steps shows the definition's answers to the whole input. Assumes nothing.
use Prim.Native.Nat.{ℕ, ◌+◌, ◌≤◌}
use native.Mathlib.Omega.{arith}
use mathlib.Core.Path.{◌≡◌, refl, ap, sym, ◌∙◌, subst}
use mathlib.Core.List.{List, [], ◌∷◌, ◌++◌}
use lib.IntN.{ℤ}
use lib.ListN.{length, drop}
use lib.Seq.{drop-drop, drop-append-le, drop-append-add}
use Rattle.std.specs.Prelude.{Ok, Err}
use Rattle.error.specs.declared.Refusal.{Refusal}
use Rattle.error.proofs.Outcome.{some_number}
use Rattle.rfc9639.specs.declared.Settings.{Settings}
use Rattle.rfc9639.specs.Read.{Report, refusal, Result, result, read}
use Rattle.rfc9639.specs.FrameByFrame.{Verdict, accept, undecided, refuse, verdict_of, verdict, goes_on, answers}
use Rattle.demands.proofs.FrameByFrame.{accept-zero, Lawful, answers_unrolled, lawful}
use Rattle.frame.specs.declared.Accepted.{Accepted}
use Rattle.frame.specs.Reads.{report_of}
use Rattle.walk.specs.declared.Step.{Step}
use Rattle.walk.specs.Steps.{Steps}

-- a step that was taken: the samples lent to it, its answer and next place, and the samples afterwards
pub record StepTaken : Type 0 where
  pub lent : List ℤ
  pub step : Step
  pub left : List ℤ

-- Steps from a place on, all with the same settings and room, up to and including the first refusal.
pub data Walk (s : List ℕ) (set : Settings) (room : ℕ) : ℕ → List StepTaken → Type 0 where
  stops : {place : ℕ} {t : StepTaken} (e : Refusal) → length t.lent ≡ room → Steps s place set t.lent t.step t.left
      → t.step.answer ≡ Err e → Walk s set room place (t ∷ [])
  goes : {place : ℕ} {t : StepTaken} {ts : List StepTaken} (f : Accepted) → length t.lent ≡ room → Steps s place set t.lent t.step t.left
      → t.step.answer ≡ Ok f → Walk s set room t.step.place ts → Walk s set room place (t ∷ ts)

-- a step shows an answer of the definition: its report, and its samples at the front of what was lent
pub record Shows (t : StepTaken) (q : Result) : Type 0 where
  pub report : report_of t.step.answer ≡ q.report
  pub samples : t.left ≡ q.front ++ drop (length q.front) t.lent

-- each step shows the answer at the same position of the list
pub data Match : List StepTaken → List Result → Type 0 where
  matched : Match [] []
  matches : {t : StepTaken} {q : Result} {ts : List StepTaken} {qs : List Result} → Shows t q → Match ts qs → Match (t ∷ ts) (q ∷ qs)

module _ (s : List ℕ) (set : Settings) (room : ℕ) where
  abbrev one : List ℕ → Result
  one = result (record { given = set; room = room })

  shows : {place : ℕ} (t : StepTaken) → length t.lent ≡ room → Steps s place set t.lent t.step t.left → Shows t (one (drop place s))
  unfolding read
  shows {place} t e h = record {
    report = h.answer.report ∙ ap (λ n. (result (record { given = set; room = n }) (drop place s)).report) e;
    samples = h.answer.samples ∙ ap (λ n. (result (record { given = set; room = n }) (drop place s)).front ++ drop (length (result (record { given = set; room = n }) (drop place s)).front) t.lent) e;
  }

  module _ (place : ℕ) {t : StepTaken} (w : Shows t (one (drop place s))) where
    frame-verdict : {f : Accepted} → t.step.answer ≡ Ok f → verdict (one (drop place s)) ≡ accept
    unfolding verdict_of
    frame-verdict e = ap (λ (r : Report). verdict_of r.number) (sym w.report ∙ ap report_of e)

    refusal-ends : {e : Refusal} → t.step.answer ≡ Err e → (l : List Result) → goes_on (verdict (one (drop place s))) l ≡ []
    unfolding refusal goes_on
    refusal-ends {e} is l = go (verdict (one (drop place s))) refl
      where
        go : (k : Verdict) → verdict (one (drop place s)) ≡ k → goes_on k l ≡ []
        go accept z =
            absurd (omega (arith, some_number e, accept-zero (one (drop place s)).report.number z, ap (λ (r : Report). r.number) (sym w.report ∙ ap report_of is)))
        go undecided z = refl
        go refuse z = refl

  next-rest : (place : ℕ) {t : StepTaken} → length t.lent ≡ room → Steps s place set t.lent t.step t.left
      → drop (one (drop place s)).report.consumed (drop place s) ≡ drop t.step.place s
  unfolding read
  next-rest place {t} e h =
      drop-drop (one (drop place s)).report.consumed place s
      ∙ ap (λ n. drop n s) (sym (h.next ∙ ap (λ n. place + (result (record { given = set; room = n }) (drop place s)).report.consumed) e))

  pub walk_matches : {place : ℕ} {ts : List StepTaken} → Walk s set room place ts → Match ts (answers one (drop place s))
  unfolding goes_on
  walk_matches {place} (stops {t = t} e l h is) =
      let w = shows t l h in
      subst (Match (t ∷ [])) (sym (answers_unrolled (lawful (record { given = set; room = room })) (drop place s) ∙ ap (λ (x : List Result). one (drop place s) ∷ x) (refusal-ends place w is _))) (matches w matched)
  walk_matches {place} (goes {t = t} {ts = ts} f l h is rest) =
      let w = shows t l h in
      let list =
      answers_unrolled (lawful (record { given = set; room = room })) (drop place s)
      ∙ ap (λ (k : Verdict). one (drop place s) ∷ goes_on k (answers one (drop (one (drop place s)).report.consumed (drop place s)))) (frame-verdict place w is)
      ∙ ap (λ (x : List ℕ). one (drop place s) ∷ answers one x) (next-rest place {t = t} l h) in
      subst (Match (t ∷ ts)) (sym list) (matches w (walk_matches rest))

-- Every run of steps from the first byte to the refusal that ends it shows the definition's answers to the whole input:
-- in order, with none skipped and none read twice, whatever each lent buffer held.
pub steps_give_answers : (s : List ℕ) (set : Settings) (room : ℕ) {ts : List StepTaken} → Walk s set room 0 ts → Match ts (answers (result (record { given = set; room = room })) s)
steps_give_answers s set room w = walk_matches s set room w

-- A window of a card: the bytes before it, those it holds, and those still to come. An answer that is decided in the
-- window is the whole card's answer at that place.
pub in_window : {one : List ℕ → Result} → Lawful one → (gone window more : List ℕ) (at : ℕ) → at ≤ length window
    → (verdict (one (drop at window)) ≡ undecided → ⊥) → one (drop (length gone + at) (gone ++ (window ++ more))) ≡ one (drop at window)
in_window {one} law gone window more at h known =
    ap one (drop-append-add gone (window ++ more) at ∙ drop-append-le at window more h) ∙ law.extended (drop at window) more known
