-- A Rice code that ends in a word: its zeros, the one that ends them, and its remainder. Assumes nothing.
use Prim.Native.Nat.{ℕ, suc, ◌+◌, ◌*◌, ◌-◌, ◌/◌, ◌%◌, ◌^◌, ◌≤◌, ◌<◌}
use native.Mathlib.Nat.{mod-lt, zero-mul, pos_of_ne-zero}
use native.Mathlib.Omega.{arith}
use mathlib.Core.Path.{◌≡◌, refl, ap, ap₂, sym, ◌∙◌}
use mathlib.Core.List.{List}
use mathlib.Core.Logic.{◌≢◌}
use lib.Count.{count_leading_zeros}
use lib.IntN.{ℤ}
use lib.ListN.{length}
use lib.Pow.{pow_pos}
use mir.Syntax.{w32}
use mir.Val.{SFits, to_z, of_z}
use mir.Facts.{to_z-of_z}
use Rattle.std.specs.Prelude.{Result}
use Rattle.std.specs.Result.{IsErrAnd}
use Rattle.error.proofs.Refusals.{exit}
use Rattle.reading.specs.declared.Place.{Place}
use Rattle.reading.specs.Places.{position, place_of, got_at, run_at}
use Rattle.reading.proofs.Bits.{one_shifted}
use Rattle.reading.proofs.ByteRuns.{In, position-place, stays_in}
use Rattle.reading.proofs.Words.{WordAt, leading_most, leading_one, one_and_bits, word_as, word_after, word-shifted, zeros-got, bits-got}
use Rattle.input.specs.Answers.{word_from}
use Rattle.input.proofs.Callers.{word_at-byte}
use Rattle.rfc9639.specs.Residual.{folded, unfolded, rice}
use Rattle.error.specs.declared.Refusal.{Refusal}
use Rattle.error.specs.Numbers.{refused_by}
use Rattle.subframe.specs.declared.bit_offset.BitOffset.{BitOffset}
use Rattle.subframe.specs.Private.{place_after, rice_read_at, StartsInWord}
use Rattle.subframe.proofs.SampleReaders.{rice-parts}

-- the byte of a place in the input is in it too
pub byte-within : {s : List ℕ} (o : BitOffset) → In s (place_after o) → o.byte ≤ length s
byte-within o h = omega (arith, h.end)

-- ---- by the answer at a place; the code passes a signed value by its bits

module _ (k : ℕ) (s : List ℕ) (o : BitOffset) {at : Place} (here : at ≡ place_after o) where
  pub any_got : {z : ℤ} {p : Place} → got_at z p ≡ run_at (rice k) s at → SFits w32 z
      → (got_at (to_z w32 (of_z w32 z)) (place_of (position p)) ≡ run_at (rice k) s (place_after o)) × (p.bit < 64)
  any_got {z} {p} e f =
      let bit : p.bit < 8 = (stays_in (rice k) s at (sym e)).bit in (ap₂ got_at (to_z-of_z f) (position-place p bit) ∙ e ∙ ap (run_at (rice k) s) here, omega arith)

  pub any_refused : (e : Refusal) (r : Result (ℤ × BitOffset) Refusal) → IsErrAnd r (λ y. y ≡ e) → refused_by e ≡ run_at (rice k) s at
      → (rice_read_at r ≡ run_at (rice k) s (place_after o)) × StartsInWord r
  any_refused e r i h = rw (exit r e i) (h ∙ ap (run_at (rice k) s) here, tt)

-- ---- the remainder, of a word whose first one is bit `top`

module _ (w top k : ℕ) (few : k < 64) (l : k ≤ top) (first : w / 2 ^ top ≡ 1) where
  pub one-within : (1 * 2 ^ k) % 2 ^ 64 ≤ w / 2 ^ (top - k)
  one-within = rw (one_shifted k few) (omega (arith, one_and_bits w top k l first))

  pub remainder_is : w / 2 ^ (top - k) - (1 * 2 ^ k) % 2 ^ 64 ≡ w / 2 ^ (top - k) % 2 ^ k
  remainder_is = rw (one_shifted k few) (omega (arith, one_and_bits w top k l first))

  pub remainder_fits : w / 2 ^ (top - k) - (1 * 2 ^ k) % 2 ^ 64 < 2 ^ k
  remainder_fits = rw remainder_is (mod-lt (w / 2 ^ (top - k)) (pow_pos k))

-- ---- the code, in the word from a byte on, shifted up by the a bits before the code; v is the shifted word

module _ (k : ℕ) (s : List ℕ) (byte a : ℕ) {w v q top : ℕ} (word : w ≡ word_from s byte) (shifted : v ≡ (w * 2 ^ a) % 2 ^ 64) (some : v ≢ 0)
    (count : q ≡ count_leading_zeros 64 v) (first : top ≡ 63 - q) (within : a + k < top) where
  few-zeros : q < 64
  few-zeros = omega (arith, leading_most 64 v (pos_of_ne-zero some) (rw shifted (mod-lt (w * 2 ^ a) (pow_pos 64))))

  word_some : 0 < w
  word_some =
      pos_of_ne-zero (λ none. some (shifted ∙ ap (λ x. (x * 2 ^ a) % 2 ^ 64) none ∙ ap (λ x. x % 2 ^ 64) (zero-mul (2 ^ a))))

  word-here : (byte + 8 ≤ length s) × WordAt s (8 * byte) 64 w
  word-here = word_at-byte s byte word word_some

  zeros-run : WordAt s (8 * byte + a) (suc q) 1
  zeros-run = leading_one (omega arith) word-here.1 (count ∙ ap (count_leading_zeros 64) shifted) few-zeros

  remainder_bits : WordAt s (8 * byte + a + suc q) k (v / 2 ^ (top - k))
  remainder_bits =
      let f : 64 - (suc q + k) ≡ top - k = omega arith in
      word_as refl refl (ap₂ (λ x y. x / 2 ^ y) (sym shifted) f) (word_after (suc q) k (word-shifted a (suc q + k) (omega arith) word-here.1))

  -- the code passes a signed value by its bits; j is the position after the code
  pub rice_in_word : {z : ℤ} (j : ℕ) → z ≡ unfolded (folded k (63 - top) (v / 2 ^ (top - k) % 2 ^ k)) → SFits w32 z → j + top ≡ 8 * byte + a + k + 64
      → got_at (to_z w32 (of_z w32 z)) (place_of j) ≡ run_at (rice k) s (place_of (8 * byte + a))
  rice_in_word {z} j e f g =
      let end : 8 * byte + a + suc q + k ≡ j = omega (arith, few-zeros) in
      let zs : q ≡ 63 - top = omega (arith, few-zeros) in
      sym
      (rice-parts k s (place_of (8 * byte + a)) (zeros-got (omega (arith, word-here.0)) q zeros-run) (bits-got (omega (arith, word-here.0)) k remainder_bits)
      ∙ ap₂ (λ x i. got_at x (place_of i)) (ap (λ m. unfolded (folded k m (v / 2 ^ (top - k) % 2 ^ k))) zs ∙ sym (to_z-of_z f ∙ e)) end)
