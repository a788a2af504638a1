-- Any two outcomes that meet a public function's contract are equal. Assumes nothing.
use Prim.Native.Nat.{ℕ}
use denote.Bor.{Bor}
use denote.MutBor.{MutBor}
use mathlib.Core.Path.{◌≡◌, refl, ap, ap₂, ◌∙◌}
use mathlib.Core.List.{List}
use Rattle.reading.proofs.Outcome.{OneOutcome, one_value}
use Rattle.bit_writer.specs.declared.Pen.{Pen}
use Rattle.bit_writer.specs.declared.BitWriter.{BitWriter}
use Rattle.bit_writer.specs.PenWrites.{State, SameOutput, Appends}
use Rattle.bit_writer.specs.contracts.BitWriter.new as new
use Rattle.bit_writer.proofs.BitWriter.new.Reads as new_reads
use Rattle.bit_writer.specs.contracts.BitWriter.write_bits as write_bits
use Rattle.bit_writer.proofs.BitWriter.write_bits.Reads as write_bits_reads
use Rattle.bit_writer.specs.contracts.BitWriter.write_unary as write_unary
use Rattle.bit_writer.proofs.BitWriter.write_unary.Reads as write_unary_reads
use Rattle.bit_writer.specs.contracts.BitWriter.written as written
use Rattle.bit_writer.proofs.BitWriter.written.Reads as written_reads

-- a writer by its parts
abbrev writer : MutBor (List ℕ) → Pen → BitWriter
writer o p = record { out = o; pen = p }

pub new-one : OneOutcome new.ended new_reads.Learnt
new-one κs args r r' left left' p q = (ap₂ writer (one_value p.0 q.0) (one_value p.1 q.1), refl)

-- for callers that write as well
pub same_writer : {lent : MutBor (List ℕ)} {x : State} {w w' : BitWriter} → SameOutput lent w.out → SameOutput lent w'.out
    → ◌≡◌ {A = State} (record { pen = w.pen; bytes = w.out.now }) x → ◌≡◌ {A = State} (record { pen = w'.pen; bytes = w'.out.now }) x → w ≡ w'
same_writer {lent} {x} {w} {w'} a b e f =
    let outputs : w.out ≡ w'.out =
    ap₂ (λ (i : ℕ × ℕ) (s : List ℕ). record { ref_ptr = i; ghost_name = w.out.ghost_name; now = s }) (one_value a.place b.place)
    (ap (λ y. y.bytes) (one_value e f))
    ∙ ap (λ g. record { ref_ptr = w'.out.ref_ptr; ghost_name = g; now = w'.out.now }) (one_value a.name b.name)
    in
    ap₂ writer outputs (ap (λ y. y.pen) (one_value e f))

pub writer_one : {bs : List ℕ} {w after after' : BitWriter} → Appends bs w after → Appends bs w after' → after ≡ after'
writer_one a b = same_writer a.same b.same a.written b.written

pub write_bits-one : OneOutcome write_bits.ended write_bits_reads.Learnt
write_bits-one κs args r r' left left' p q = (refl, ap (λ w. (w, (tt, (tt, tt)))) (writer_one p q))

pub write_unary-one : OneOutcome write_unary.ended write_unary_reads.Learnt
write_unary-one κs args r r' left left' p q = (refl, ap (λ w. (w, (tt, tt))) (writer_one p q))

-- lent bytes by where they lie and what they are
abbrev lent_bytes : ℕ × ℕ → List ℕ → Bor (List ℕ)
lent_bytes i s = record { ref_ptr = i; now = s }

pub written-one : OneOutcome written.ended written_reads.Learnt
written-one κs args r r' left left' p q = (ap₂ lent_bytes (one_value p.1 q.1) (one_value p.0 q.0), refl)
