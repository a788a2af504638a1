-- The parts of a header (RFC 9639 section 9.1): what the definition gets for each, by its code. Assumes nothing.
use Prim.Native.Nat.{ℕ, ◌%◌, ◌≤◌, ◌<◌}
use native.Mathlib.Nat.{mod-eq_of_lt, lt_of_lt_of_le}
use native.Mathlib.Omega.{arith}
use mathlib.Core.Path.{◌≡◌, refl, ap, ◌∙◌, subst}
use mathlib.Core.Bool.{Bool, true, false, cond, ◌||◌}
use mathlib.Core.List.{List}
use borrow.Author.Tests.{le-leb, lt-leb}
use lib.Dec.{leb, eqb}
use lib.Pow.{pow_mono}
use Rattle.reading.specs.declared.Place.{Place}
use Rattle.reading.specs.Readers.{next_bits, done, bits, bits_from, reply}
use Rattle.reading.specs.Places.{got_at, refused_at, run_at, place_of}
use Rattle.reading.proofs.ByteRuns.{In, position-place, of_reply, run_at-ask, bits_below}
use Rattle.reading.proofs.Postconditions.{Meets, holds_at}
use Rattle.rfc9639.specs.declared.BlockTime.TheVariants.{FrameNumber, SampleNumber}
use Rattle.rfc9639.specs.declared.Codes.{Codes}
use Rattle.rfc9639.specs.Number.{coded_number}
use Rattle.rfc9639.specs.HeaderCodes.{rate_bits}
use Rattle.rfc9639.specs.Header.{time_of, codes, block_time}
use Rattle.demands.proofs.Headers.{Early, CodesInRange, codes_holds}
use Rattle.header.proofs.ReaderSteps.{check_fails, check_done}
use Rattle.header.proofs.ByteAlignment.{moves_at, codes-whole}

-- ---- the coded number and its limit

module _ (blocking : ℕ) (s : List ℕ) (at : Place) {number : ℕ} {q : Place} (e : run_at coded_number s at ≡ got_at number q) where
  number_allowed : Bool
  number_allowed = eqb blocking 1 || leb number 2147483647

  pub frame-number-refused : blocking ≡ 0 → 2147483647 < number → run_at (block_time blocking) s at ≡ refused_at 5
  unfolding block_time
  frame-number-refused f l = check_fails coded_number s at (λ n. eqb blocking 1 || leb n 2147483647) 5 e (λ n. done (time_of blocking n)) (rw (f, lt-leb _ _ l))

  time_got : number_allowed ≡ true → run_at (block_time blocking) s at ≡ got_at (time_of blocking number) q
  unfolding block_time number_allowed
  time_got f = check_done coded_number s at (λ n. eqb blocking 1 || leb n 2147483647) 5 e (time_of blocking) f

  pub frame_time : blocking ≡ 0 → number ≤ 2147483647 → run_at (block_time blocking) s at ≡ got_at (FrameNumber number) q
  unfolding time_of number_allowed
  frame_time f l = time_got (rw (f, le-leb _ _ l)) ∙ rw f

  pub sample_time : blocking ≡ 1 → run_at (block_time blocking) s at ≡ got_at (SampleNumber number) q
  unfolding time_of number_allowed
  sample_time f = time_got (rw f) ∙ rw f

-- ---- the rate, by its code

pub rate-few : (code : ℕ) → rate_bits code ≤ 16
unfolding rate_bits
rate-few code = go (eqb code 12) (eqb code 13) (eqb code 14)
  where
    go : (a b c : Bool) → cond a 8 (cond b 16 (cond c 16 0)) ≤ 16
    go true b c = omega arith
    go false true c = omega arith
    go false false true = omega arith
    go false false false = omega arith

-- no bits are 0
pub bits_none : {s : List ℕ} {at : Place} → In s at → run_at (bits 0) s at ≡ got_at 0 at
unfolding bits reply bits_from of_reply
bits_none {s} {at} i = run_at-ask (next_bits 0) i ∙ ap (got_at 0) (position-place at i.bit)

-- what is stored of it has at most 16 bits
pub stored-few : (code : ℕ) (s : List ℕ) (at : Place) {v : ℕ} {q : Place} → run_at (bits (rate_bits code)) s at ≡ got_at v q → v % 65536 ≡ v
stored-few code s at e = mod-eq_of_lt (lt_of_lt_of_le (bits_below (rate_bits code) s at e) (pow_mono (rate-few code)))

-- ---- the first four bytes

module _ (s : List ℕ) {c : Codes} {p : Place} (e : run_at codes s (place_of 0) ≡ got_at c p) where
  pub codes-coded : CodesInRange c
  codes-coded = subst (Meets Early CodesInRange) e (holds_at Early CodesInRange s (place_of 0) codes_holds)

  pub codes-aligned : p.bit ≡ 0
  codes-aligned = moves_at s codes (place_of 0) codes-whole refl e
