-- Consecutive writes: what several calls of the pen wrote together. Assumes nothing.
use Prim.Native.Nat.{ℕ}
use denote.MutBor.{MutBor}
use mathlib.Core.Path.{◌≡◌, refl, ap, sym, ◌∙◌}
use mathlib.Core.List.{List, [], ◌++◌}
use Rattle.reading.proofs.NumbersAsBits.{Bits, Binary, binary_append}
use Rattle.bit_writer.specs.declared.Pen.{Pen}
use Rattle.bit_writer.specs.declared.BitWriter.{BitWriter}
use Rattle.bit_writer.specs.PenWrites.{State, inked, Writes, SameOutput, Appends}
use Rattle.bit_writer.proofs.InkedBits.{inked_nothing, inked_append}

-- one output, from call to call
pub same_output : {o : MutBor (List ℕ)} → SameOutput o o
same_output = record { name = refl; place = refl }

pub same_then : {a b c : MutBor (List ℕ)} → SameOutput a b → SameOutput b c → SameOutput a c
same_then s t = record { name = t.name ∙ s.name; place = t.place ∙ s.place }

-- the same bits by another name
inked_as : {bs cs : List ℕ} (p : Pen) (s : List ℕ) {x : State} → bs ≡ cs → x ≡ inked bs p s → x ≡ inked cs p s
inked_as p s e d = d ∙ ap (λ (l : List ℕ). inked l p s) e

-- some bits, and after them some more
pub writes_then : (bs cs : List ℕ) (p : Pen) (s : List ℕ) {q : Pen} {t : List ℕ} {r : Pen} {u : List ℕ} → Bits bs
    → Writes bs p s q t → Writes cs q t r u → Writes (bs ++ cs) p s r u
writes_then bs cs p s b d e = e ∙ ap (λ (x : State). inked cs x.pen x.bytes) d ∙ sym (inked_append bs cs p s b)

pub nothing_appended : {w : BitWriter} → Appends [] w w
nothing_appended {w} = record { same = same_output; written = sym (inked_nothing w.pen w.out.now) }

-- the same bits by another name
pub appends_as : {bs cs : List ℕ} {w after : BitWriter} → bs ≡ cs → Appends bs w after → Appends cs w after
appends_as {bs} {cs} {w} e a = record { same = a.same; written = inked_as w.pen w.out.now e a.written }

-- what several calls wrote, one after the other
pub record Appended (bs : List ℕ) (w after : BitWriter) : Type 0 where
  pub binary : Binary bs
  pub whole : Appends bs w after

pub appended_once : {bs : List ℕ} {w after : BitWriter} → Binary bs → Appends bs w after → Appended bs w after
appended_once b a = record { binary = b; whole = a }

module _ {bs : List ℕ} {w first : BitWriter} (a : Appended bs w first) {after : BitWriter} where
  pub append_then : (cs : List ℕ) → Appends cs first after → Appends (bs ++ cs) w after
  append_then cs e = record {
    same = same_then a.whole.same e.same;
    written = writes_then bs cs w.pen w.out.now a.binary.bits a.whole.written e.written;
  }

  pub appended_after : {cs : List ℕ} → Binary cs → Appends cs first after → Appended (bs ++ cs) w after
  appended_after {cs} b e = record { binary = binary_append a.binary b; whole = append_then cs e }
