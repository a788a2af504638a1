-- Loops that write bits: a turn of each, and the invariant, which is what is still to be written. Assumes nothing.
use Prim.Native.Nat.{ℕ, ◌+◌, ◌*◌, ◌-◌, ◌/◌, ◌%◌, ◌^◌, ◌≤◌, ◌<◌}
use native.Mathlib.Nat.{lt_of_lt_of_le, mod-eq_of_lt}
use native.Mathlib.Numerals.{add-one}
use native.Mathlib.Omega.{arith}
use mathlib.Core.Path.{◌≡◌, refl, ap, ap₂, sym, ◌∙◌}
use mathlib.Core.Bool.{true, false}
use mathlib.Core.List.{List, ◌++◌}
use lib.Arith.{digits_lt}
use lib.ListN.{length, set}
use lib.Pow.{pow_mono, pow-add, shl_exact}
use Rattle.reading.specs.NumbersAsBits.{bits_of, unary, spelt}
use Rattle.reading.proofs.NumbersAsBits.{Bits, bits-bits_of, length-bits_of, spelt-bits_of, bits_of-split, bits_of_mod, bits_of-one, unary-more}
use Rattle.bit_writer.specs.declared.Pen.{Pen}
use Rattle.bit_writer.specs.declared.BitWriter.{BitWriter}
use Rattle.bit_writer.specs.PenWrites.{State, ink, inked, is_pen, SameOutput, Appends}
use Rattle.bit_writer.proofs.ConsecutiveWrites.{same_output, same_then}
use Rattle.bit_writer.proofs.InkedBits.{Good, pen-good, ink_append, ink-good, ink-length, ink-out, ink-few, ink-byte, inked_is, inked-none}

-- ---- m more bits in the byte being filled

module _ (p : Pen) (m x : ℕ) (low : p.bits < 2 ^ p.held) (room : p.held + m ≤ 8) (fits : x < 2 ^ m) where
  -- no bit is shifted out of the word
  appended : (p.bits * 2 ^ m) % 2 ^ 64 + x ≡ p.bits * 2 ^ m + x
  appended = ap (λ (y : ℕ). y + x) (shl_exact p.held m 64 low (omega arith))

  pub appended-below : (p.bits * 2 ^ m) % 2 ^ 64 + x < 256
  appended-below = rw appended (lt_of_lt_of_le (digits_lt low fits) (rw (← pow-add 2 p.held m) (pow_mono room)))

  appended-spelt : (p.bits * 2 ^ m) % 2 ^ 64 + x ≡ spelt p.bits (bits_of m x)
  appended-spelt = appended ∙ ap (λ (y : ℕ). p.bits * 2 ^ m + y) (sym (mod-eq_of_lt fits)) ∙ sym (spelt-bits_of p.bits m x)

  module _ (s : List ℕ) (l : p.byte < length s) where
    pub put-few : p.held + m < 8
        → ◌≡◌ {A = State} (record { pen = record { byte = p.byte; held = p.held + m; bits = (p.bits * 2 ^ m) % 2 ^ 64 + x }; bytes = s }) (ink (bits_of m x) p s)
    put-few h =
        ap₂ (λ (k y : ℕ). record { pen = record { byte = p.byte; held = p.held + k; bits = y }; bytes = s }) (sym (length-bits_of m x)) appended-spelt
        ∙ sym (ink-few (bits_of m x) p s l (rw length-bits_of h))

    pub put_byte : 0 < m → 8 ≤ p.held + m
        → ◌≡◌ {A = State} (record { pen = record { byte = p.byte + 1; held = 0; bits = 0 }; bytes = set s p.byte ((p.bits * 2 ^ m) % 2 ^ 64 + x) }) (ink (bits_of m x) p s)
    put_byte n h =
        ap (λ (y : ℕ). record { pen = record { byte = p.byte + 1; held = 0; bits = 0 }; bytes = set s p.byte y }) appended-spelt
        ∙ sym (ink-byte (bits_of m x) p s l (rw length-bits_of n) (omega (arith, length-bits_of m x)))

-- ---- bits of which the last ones, `rest`, are still to be written: inking them from here gives the whole result

pub record BitsLeft (all : List ℕ) (w₀ : BitWriter) (rest : List ℕ) (w : BitWriter) : Type 0 where
  pub good : Good w.pen
  pub output : SameOutput w₀.out w.out
  pub long : length w.out.now ≡ length w₀.out.now
  pub same : inked all w₀.pen w₀.out.now ≡ ink rest w.pen w.out.now

pub none_written : (all : List ℕ) {w : BitWriter} → is_pen w.pen ≡ false → Appends all w w
none_written all e = record { same = same_output; written = sym (inked-none _ _ _ e) }

pub begin : (all : List ℕ) {w : BitWriter} → is_pen w.pen ≡ true → BitsLeft all w all w
begin all e =
    let g = pen-good _ e in record { good = g; output = same_output; long = refl; same = inked_is all _ _ g }

module _ {all : List ℕ} {w₀ : BitWriter} {rest : List ℕ} {w : BitWriter} (inv : BitsLeft all w₀ rest w) where
  pub output-full : length w.out.now ≤ w.pen.byte → Appends all w₀ w
  output-full l = record { same = inv.output; written = sym (inv.same ∙ ink-out rest _ _ l) }

  step : (bs cs : List ℕ) {after : BitWriter} → SameOutput w.out after.out → Bits bs → rest ≡ bs ++ cs
      → ◌≡◌ {A = State} (record { pen = after.pen; bytes = after.out.now }) (ink bs w.pen w.out.now) → BitsLeft all w₀ cs after
  step bs cs s h f e = record {
    good = rw (ap (λ y. y.pen) e) (ink-good bs w.pen w.out.now h inv.good);
    output = same_then inv.output s;
    long = ap (λ y. length y.bytes) e ∙ ink-length bs w.pen w.out.now ∙ inv.long;
    same = inv.same ∙ ap (λ y. ink y w.pen w.out.now) f ∙ ink_append bs cs w.pen w.out.now ∙ ap (λ y. ink cs y.pen y.bytes) (sym e);
  }

-- of a number, the m highest of the bits that are left
module _ (n v left : ℕ) {w₀ w : BitWriter} (inv : BitsLeft (bits_of n v) w₀ (bits_of left v) w) where
  pub step-bits : (m : ℕ) {x : ℕ} {after : BitWriter} → m ≤ left → x ≡ v / 2 ^ (left - m) % 2 ^ m → SameOutput w.out after.out
      → ◌≡◌ {A = State} (record { pen = after.pen; bytes = after.out.now }) (ink (bits_of m x) w.pen w.out.now)
      → BitsLeft (bits_of n v) w₀ (bits_of (left - m) v) after
  step-bits m {x} h ex s e =
      step inv (bits_of m x) (bits_of (left - m) v) s (bits-bits_of m x)
      (ap (λ k. bits_of k v) (let f : left ≡ m + (left - m) = omega arith in f) ∙ bits_of-split m (left - m) v
      ∙ ap (λ y. y ++ bits_of (left - m) v) (sym (bits_of_mod m (v / 2 ^ (left - m))) ∙ ap (bits_of m) (sym ex)))
      e

  pub end-bits : left ≤ 0 → Appends (bits_of n v) w₀ w
  unfolding bits_of ink
  end-bits h = record { same = inv.output; written = sym (inv.same ∙ ap (λ k. ink (bits_of k v) w.pen w.out.now) (let e : left ≡ 0 = omega arith in e)) }

-- of some zeros and a one, 32 zeros; then the rest
module _ (z left : ℕ) {w₀ w : BitWriter} (inv : BitsLeft (unary z) w₀ (unary left) w) where
  pub step-zeros : {after : BitWriter} → 32 ≤ left → Appends (bits_of 32 0) w after → BitsLeft (unary z) w₀ (unary (left - 32)) after
  step-zeros h a =
      step inv (bits_of 32 0) (unary (left - 32)) a.same (bits-bits_of 32 0)
      (ap unary (let f : left ≡ 32 + (left - 32) = omega arith in f) ∙ unary-more 32 (left - 32))
      (a.written ∙ inked_is (bits_of 32 0) w.pen w.out.now inv.good)

  pub end-zeros : {after : BitWriter} → Appends (bits_of (left + 1) 1) w after → Appends (unary z) w₀ after
  end-zeros a = record {
    same = same_then inv.output a.same;
    written =
        a.written ∙ inked_is (bits_of (left + 1) 1) w.pen w.out.now inv.good ∙ ap (λ y. ink y w.pen w.out.now) (ap (λ k. bits_of k 1) (add-one left) ∙ bits_of-one left)
        ∙ sym inv.same;
  }
