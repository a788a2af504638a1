-- DEMAND 3, for the code, under any settings: an answer of `read_frame` changes only by what it asks of the caller.
-- Assumes nothing.
use Prim.Native.Nat.{ℕ, ◌≤◌, ◌<◌}
use native.Mathlib.Omega.{arith}
use mathlib.Core.Bool.{true, false}
use mathlib.Core.Logic.{◌≢◌}
use mathlib.Core.Path.{◌≡◌, ap, sym, ◌∙◌}
use mathlib.Core.List.{List, [], ◌++◌}
use lib.IntN.{ℤ}
use lib.ListN.{length, take}
use Rattle.std.specs.Prelude.{Ok, Err}
use Rattle.error.specs.declared.Refusal.{Refusal}
use Rattle.error.specs.declared.Refusal.TheVariants.{NothingLeft, CutShort, NoRoom, BadArgument}
use Rattle.error.specs.declared.Need.{Need}
use Rattle.error.specs.declared.Need.TheVariants.{Wait, Room, Final}
use Rattle.error.specs.Numbers.{number_of}
use Rattle.error.specs.Needs.{needs_of}
use Rattle.error.proofs.Outcome.{number-tells, some_number}
use Rattle.rfc9639.specs.declared.Settings.{Settings}
use Rattle.rfc9639.specs.Stream.{possible}
use Rattle.rfc9639.specs.Read.{Report, refusal, Outcome, read}
use Rattle.demands.proofs.Demand3
use Rattle.demands.proofs.BufferTable.{Table, table}
use Rattle.frame.specs.declared.Accepted.{Accepted}
use Rattle.frame.specs.Reads.{report_of, Reads}
use Rattle.frame.proofs.Outcome.{report-tells}
use Rattle.promises.proofs.Outcomes.{ReadAnswer, ReadFrame, reads}

-- What an answer asks of the caller: a refusal, what `needs` of crate `error` says; a frame, nothing. Only what an
-- answer asks for, bytes or room, can change it.
abbrev pub asks : ReadAnswer → Need
asks (Ok f) = Final
asks (Err e) = needs_of e

-- ---- answers and numbers

-- an answer with a refusal's number is that refusal
named : (r : ReadAnswer) (x : Refusal) → (report_of r).number ≡ number_of x → r ≡ Err x
unfolding refusal
named (Ok f) x e = absurd (omega (arith, some_number x))
named (Err y) x e = ap Err (number-tells y x e)

-- two answers of the code to equal outcomes of the definition are equal
equal : {x y : Outcome} {r r' : ReadAnswer} {left left' : List ℤ} → x ≡ y → Reads x r left → Reads y r' left' → (r ≡ r') × (left ≡ left')
equal {r = r} {r' = r'} e p q = (
  report-tells r r' (p.report ∙ ap (λ (o : Outcome). o.report) e ∙ sym q.report),
  p.samples ∙ ap (λ (o : Outcome). o.buffer) e ∙ sym q.samples,
)

-- The settings are held fixed.
module _ {given : Settings} {s : List ℕ} {b : List ℤ} {r : ReadAnswer} {left : List ℤ} (o : ReadFrame given s b r left) where
  number_is : (read given s b).report.number ≡ (report_of r).number
  number_is = sym (ap (λ (q : Report). q.number) (reads o).report)

  -- what an answer asks, by its number
  asks_by : (x : Refusal) → (read given s b).report.number ≡ number_of x → asks r ≡ needs_of x
  asks_by x e = ap asks (named r x (sym number_is ∙ e))

  -- ---- 1. More bytes never change an answer that does not wait for bytes: answer and buffer stay the same.

  pub bytes_change_nothing : asks r ≢ Wait → (t : List ℕ) {r' : ReadAnswer} {left' : List ℤ} → ReadFrame given (s ++ t) b r' left' → (r ≡ r') × (left ≡ left')
  bytes_change_nothing known t p = equal (sym (Demand3.never_unsaid given s t b (λ e. known (asks_by NothingLeft e)) (λ e. known (asks_by CutShort e)))) (reads o) (reads p)

  -- ---- 2. More room never changes an answer that does not ask for room; the added room is untouched.

  pub room_changes_nothing : asks r ≢ Room → (more : List ℤ) {r' : ReadAnswer} {left' : List ℤ} → ReadFrame given s (b ++ more) r' left' → (r ≡ r') × (left ++ more ≡ left')
  room_changes_nothing roomy more {r'} p =
      let same = Demand3.more_room given s b more (λ e. roomy (asks_by NoRoom e)) in (
        report-tells r r' ((reads o).report ∙ sym (ap (λ (x : Outcome). x.report) same) ∙ sym (reads p).report),
        ap (λ (l : List ℤ). l ++ more) (reads o).samples ∙ sym (ap (λ (x : Outcome). x.buffer) same) ∙ sym (reads p).samples,
      )

  -- ---- 3. A frame: its consumed bytes are there, they alone give its answer and buffer, and fewer are cut short.

  module _ {f : Accepted} (is : r ≡ Ok f) where
    zero_number : (read given s b).report.number ≡ 0
    zero_number = number_is ∙ ap (λ (q : ReadAnswer). (report_of q).number) is

    consumed_is : (read given s b).report.consumed ≡ f.consumed
    consumed_is = sym (ap (λ (q : Report). q.consumed) (sym (ap report_of is) ∙ (reads o).report))

    pub counted-there : f.consumed ≤ length s
    counted-there = omega (arith, consumed_is, Demand3.counted-there given s b zero_number)

    pub counted-suffice : {r' : ReadAnswer} {left' : List ℤ} → ReadFrame given (take f.consumed s) b r' left' → (r ≡ r') × (left ≡ left')
    counted-suffice p =
        equal (sym (ap (λ n. read given (take n s) b) (sym consumed_is) ∙ Demand3.counted-suffice given s b zero_number)) (reads o) (reads p)

    pub fewer-cut_short : (m : ℕ) → 0 < m → m < f.consumed → {r' : ReadAnswer} {left' : List ℤ} → ReadFrame given (take m s) b r' left' → r' ≡ Err CutShort
    fewer-cut_short m some less {r'} p =
        named r' CutShort
        (ap (λ (q : Report). q.number) (reads p).report
        ∙ Demand3.fewer-cut_short given s b zero_number m some (omega (arith, consumed_is)))

  -- ---- 4. What the buffer held before does not affect the answer.

  pub answer_ignores_buffer : {b' : List ℤ} → length b ≡ length b' → {r' : ReadAnswer} {left' : List ℤ} → ReadFrame given s b' r' left' → r ≡ r'
  answer_ignores_buffer {b'} e {r'} p = report-tells r r' ((reads o).report ∙ Demand3.report_ignores_buffer given s b b' e ∙ sym (reads p).report)

  -- ---- 5. Document 01's table: what the samples hold afterwards.

  pub left_by_table : (left ≡ (read given s b).buffer) × Table given s b
  left_by_table = ((reads o).samples, table given s b)

-- under settings that a stream can have, the empty input is refused as `NothingLeft`, and the buffer stays
pub nothing_left : {given : Settings} → possible given ≡ true → {b : List ℤ} {r : ReadAnswer} {left : List ℤ} → ReadFrame given [] b r left
    → (r ≡ Err NothingLeft) × (left ≡ b)
nothing_left {given} ok {b} {r} o =
    let one = Demand3.nothing_left given ok b in
    (named r NothingLeft (sym (number_is o) ∙ one), (reads o).samples ∙ (table given [] b).row_1 one)

-- settings that no stream has are refused as `BadArgument` whatever the bytes, and the buffer stays
pub settings-refused : {given : Settings} → possible given ≡ false → {s : List ℕ} {b : List ℤ} {r : ReadAnswer} {left : List ℤ} → ReadFrame given s b r left
    → (r ≡ Err BadArgument) × (left ≡ b)
unfolding refusal
settings-refused {given} bad {s} {b} {r} o =
    let outcome = Demand3.settings-refused given bad s b in (
      named r BadArgument (sym (number_is o) ∙ ap (λ (x : Outcome). x.report.number) outcome),
      (reads o).samples ∙ ap (λ (x : Outcome). x.buffer) outcome,
    )

-- ---- A final answer stays, whatever bytes follow and however much room is added.

pub final_stays : {given : Settings} {s : List ℕ} {b : List ℤ} {r : ReadAnswer} {left : List ℤ} → ReadFrame given s b r left → asks r ≡ Final
    → (t : List ℕ) (more : List ℤ) {r' : ReadAnswer} {left' : List ℤ} → ReadFrame given (s ++ t) (b ++ more) r' left' → (r ≡ r') × (left ++ more ≡ left')
final_stays {given} {s} {b} {r} {left} o final t more {r'} p =
    let longer = Demand3.never_unsaid given s t b (λ e. apart (sym final ∙ asks_by o NothingLeft e)) (λ e. apart (sym final ∙ asks_by o CutShort e)) in
    let roomier = Demand3.more_room given (s ++ t) b more (λ e. roomless (sym final ∙ asks_by o NoRoom (sym (ap (λ (x : Outcome). x.report.number) longer) ∙ e))) in (
      report-tells r r' ((reads o).report ∙ sym (ap (λ (x : Outcome). x.report) longer) ∙ sym (ap (λ (x : Outcome). x.report) roomier) ∙ sym (reads p).report),
      ap (λ (l : List ℤ). l ++ more) ((reads o).samples ∙ sym (ap (λ (x : Outcome). x.buffer) longer)) ∙ sym (ap (λ (x : Outcome). x.buffer) roomier) ∙ sym (reads p).samples,
    )
  where
    apart : Final ≡ Wait → ⊥
    apart e = cc

    roomless : Final ≡ Room → ⊥
    roomless e = cc
