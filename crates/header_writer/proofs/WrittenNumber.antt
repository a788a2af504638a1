-- The coded number, written byte by byte (RFC 9639 section 9.1.5): the loop over the following bytes. Assumes nothing.
use Prim.Native.Nat.{ℕ, zero, suc, ◌+◌, ◌*◌, ◌-◌, ◌/◌, ◌%◌, ◌^◌, ◌≤◌, ◌<◌}
use native.Mathlib.Nat.{pow-suc}
use native.Mathlib.Omega.{arith}
use mathlib.Core.Path.{◌≡◌, refl, ap, sym, ◌∙◌}
use mathlib.Core.List.{List, ◌∷◌}
use lib.ListN.{length}
use lib.Pow.{pow-add}
use Rattle.reading.specs.Bytes.{bits_of_bytes}
use Rattle.reading.specs.NumbersAsBits.{bits_of}
use Rattle.reading.proofs.NumbersAsBits.{binary-bits_of, bits-bits_of, bits_of_bytes_cons}
use Rattle.rfc9639.specs.Write.{followers}
use Rattle.bit_writer.specs.declared.BitWriter.{BitWriter}
use Rattle.bit_writer.specs.PenWrites.{inked, SameOutput, Appends}
use Rattle.bit_writer.proofs.InkedBits.{inked_append, inked_nothing, inked-length}
use Rattle.bit_writer.proofs.ConsecutiveWrites.{same_output, same_then, appends_as, appended_once, append_then}

-- A byte, written before some others, is the first of all of them.
pub byte-first : (b : ℕ) (bs : List ℕ) {w first after : BitWriter} → Appends (bits_of 8 b) w first → Appends (bits_of_bytes bs) first after
    → Appends (bits_of_bytes (b ∷ bs)) w after
byte-first b bs d e = appends_as (bits_of_bytes_cons b bs) (append_then (appended_once (binary-bits_of 8 b) d) (bits_of_bytes bs) e)

-- the code's shift and the definition's quotient
pow_64 : (m : ℕ) → 2 ^ (6 * m) ≡ 64 ^ m
pow_64 zero = refl
pow_64 (suc m) =
    ap (λ k. 2 ^ k) (let e : 6 * suc m ≡ 6 * m + 6 = omega arith in e) ∙ pow-add 2 (6 * m) 6 ∙ ap (λ x. x * 64) (pow_64 m) ∙ sym (pow-suc 64 m)

-- Of n bytes, `left` are still to be written, and writing them from here gives the whole result.
pub record Following (v n : ℕ) (w₀ : BitWriter) (left : ℕ) (w : BitWriter) : Type 0 where
  pub few : left ≤ 6
  pub output : SameOutput w₀.out w.out
  pub long : length w.out.now ≡ length w₀.out.now
  pub same : inked (bits_of_bytes (followers left v)) w.pen w.out.now ≡ inked (bits_of_bytes (followers n v)) w₀.pen w₀.out.now

module _ (v n : ℕ) {w₀ : BitWriter} where
  pub begin : n ≤ 6 → Following v n w₀ n w₀
  begin few = record { few = few; output = same_output; long = refl; same = refl }

  module _ {left : ℕ} {w : BitWriter} (f : Following v n w₀ left w) where
    pub step : {after : BitWriter} → 0 < left → Appends (bits_of 8 (0x80 + v / 2 ^ (6 * (left - 1)) % 64)) w after → Following v n w₀ (left - 1) after
    unfolding followers
    step {after} l e =
        let m : ℕ = left - 1 in
        let b : ℕ = 0x80 + v / 64 ^ m % 64 in
        let first : Appends (bits_of 8 b) w after = appends_as (ap (λ x. bits_of 8 (0x80 + v / x % 64)) (pow_64 m)) e in
        record {
          few = omega (arith, f.few);
          output = same_then f.output e.same;
          long = ap (λ x. length x.bytes) e.written ∙ inked-length _ w.pen w.out.now ∙ f.long;
          same =
              ap (λ x. inked (bits_of_bytes (followers m v)) x.pen x.bytes) first.written
              ∙ sym (inked_append (bits_of 8 b) (bits_of_bytes (followers m v)) w.pen w.out.now (bits-bits_of 8 b))
              ∙ ap (λ x. inked x w.pen w.out.now) (bits_of_bytes_cons b (followers m v))
              ∙ ap (λ k. inked (bits_of_bytes (followers k v)) w.pen w.out.now) (let z : suc m ≡ left = omega arith in z) ∙ f.same;
        }

    pub end : left ≤ 0 → Appends (bits_of_bytes (followers n v)) w₀ w
    unfolding followers bits_of_bytes
    end l = record {
      same = f.output;
      written =
          sym (inked_nothing w.pen w.out.now) ∙ ap (λ k. inked (bits_of_bytes (followers k v)) w.pen w.out.now) (let z : 0 ≡ left = omega arith in z)
          ∙ f.same;
    }
