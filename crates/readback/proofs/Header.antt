-- The frame header is read back (RFC 9639 section 9.1). Assumes nothing.
use Prim.Native.Nat.{ℕ, zero, suc, ◌+◌, ◌*◌, ◌-◌, ◌/◌, ◌%◌, ◌^◌, ◌≤◌, ◌<◌}
use native.Mathlib.Omega.{arith}
use mathlib.Core.Path.{◌≡◌, refl, ap, ap₂, sym, ◌∙◌, subst}
use mathlib.Core.Bool.{Bool, true, false, cond, ◌||◌}
use mathlib.Core.List.{List, [], ◌++◌, append_assoc}
use borrow.Author.Tests.{lt-ltb, le-leb, leb-true, eq-eqb, eqb-true}
use lib.Dec.{leb, eqb}
use Rattle.std.specs.Prelude.{Option, None}
use Rattle.reading.specs.Readers.{done}
use Rattle.reading.specs.Bytes.{bits_of_bytes}
use Rattle.reading.specs.NumbersAsBits.{bits_of}
use Rattle.reading.proofs.NumbersAsBits.{bits_of-split, bits_of_mod}
use Rattle.rfc9639.specs.declared.Codes.{Codes}
use Rattle.rfc9639.specs.declared.FrameHeader.{FrameHeader}
use Rattle.rfc9639.specs.declared.FrameSetting.{FrameSetting}
use Rattle.rfc9639.specs.CheckSums.{crc8}
use Rattle.rfc9639.specs.HeaderCodes.{assignment, block_size, rate_bits, sample_rate, size_code, size_bits, bits_code}
use Rattle.rfc9639.specs.Header.{time_of, sync, size_and_rate, depth_and_zero, channels_and_bits, codes, block_time, header_sum, header_after_codes, header}
use Rattle.rfc9639.specs.Write.{number_bytes, code_bits, field_bits, header_bits, number_limit}
use Rattle.rfc9639.proofs.CheckSums.{crc8-below}
use Rattle.reading.proofs.TestChains.{by_test}
use Rattle.readback.proofs.SpelledValues.{Spells, spells_as, spells_value, spells_by, spells_bits, spells_passed, spells_done, spells_bind, spells_then, spells_last, spells_checked, spells_require}
use Rattle.readback.proofs.Number.{spells_number}
use Rattle.rfc9639.proofs.AllowedSettings.{Depth, Allowed}

-- ---- the first four bytes

spells_sync : (b : ℕ) {before : List ℕ} → b ≤ 1 → Spells before sync (bits_of 15 0x7ffc ++ bits_of 1 b) b
unfolding sync
spells_sync b h =
    let v : ℕ = 0x7ffc * 2 + b in
    let half : v / 2 ≡ 0x7ffc = omega arith in
    let odd : v % 2 ≡ b = omega arith in
    spells_as (bits_of-split 15 1 v ∙ ap₂ (λ x y. bits_of 15 x ++ y) half (sym (bits_of_mod 1 v) ∙ ap (bits_of 1) odd))
    (spells_last _ (spells_bits 16 {v = v} (omega arith)) (spells_checked 3 _ (eq-eqb (v / 2) 0x7ffc half) (spells_value odd spells_done)))

spells_size_and_rate : (code : ℕ) {before : List ℕ} → 0 < code → code < 16 → Spells before size_and_rate (bits_of 4 code ++ bits_of 4 0) (code, 0)
unfolding size_and_rate
spells_size_and_rate code some most =
    spells_bind _ (spells_bits 4 most)
    (spells_checked 4 _ (lt-ltb 0 code some) (spells_last _ (spells_bits 4 {v = 0} (omega arith)) (spells_checked 4 _ refl spells_done)))

spells_depth_and_zero : {b : ℕ} {before : List ℕ} → Depth b → Spells before depth_and_zero (bits_of 3 (bits_code b) ++ bits_of 1 0) b
unfolding depth_and_zero
spells_depth_and_zero d =
    spells_bind _ (spells_bits 3 d.code)
    (spells_then _ (spells_by d.read spells_done) (spells_last _ (spells_bits 1 {v = 0} (omega arith)) (spells_checked 4 _ refl spells_done)))

spells_channels_and_bits : (c : ℕ) {b : ℕ} {before : List ℕ} → c ≤ 10 → Depth b
    → Spells before channels_and_bits (bits_of 4 c ++ (bits_of 3 (bits_code b) ++ bits_of 1 0)) (assignment c, b)
unfolding channels_and_bits
spells_channels_and_bits c h d =
    spells_bind _ (spells_bits 4 (omega arith)) (spells_checked 4 _ (le-leb c 10 h) (spells_last _ (spells_depth_and_zero d) spells_done))

-- ---- the block size

abbrev uncommon_size_bits : ℕ → ℕ → List ℕ
uncommon_size_bits code n = cond (eqb code 6) (bits_of 8 (n - 1)) (cond (eqb code 7) (bits_of 16 (n - 1)) [])

record SizeCoded (n code : ℕ) : Type 0 where
  some : 0 < code
  most : code < 16
  read : {before : List ℕ} → Spells before (block_size code) (uncommon_size_bits code n) n

-- a block size that has a code of its own
own : (m code : ℕ) {n : ℕ} → block_size code ≡ done m → uncommon_size_bits code m ≡ [] → 0 < code → code < 16 → eqb n m ≡ true → SizeCoded n code
own m code {n} b e some most t =
    subst (λ k. SizeCoded k code) (sym (eqb-true n m t))
    (record { some = some; most = most; read = spells_as (sym e) (spells_by b spells_done) })

size-coded : (n : ℕ) → 0 < n → n ≤ 65535 → SizeCoded n (size_code n)
unfolding size_code block_size
size-coded n some most =
    test (eqb n 192) 1 _ (own 192 1 refl refl (omega arith) (omega arith))
    (λ _. test (eqb n 576) 2 _ (own 576 2 refl refl (omega arith) (omega arith))
    (λ _. test (eqb n 1152) 3 _ (own 1152 3 refl refl (omega arith) (omega arith))
    (λ _. test (eqb n 2304) 4 _ (own 2304 4 refl refl (omega arith) (omega arith))
    (λ _. test (eqb n 4608) 5 _ (own 4608 5 refl refl (omega arith) (omega arith))
    (λ _. test (eqb n 256) 8 _ (own 256 8 refl refl (omega arith) (omega arith))
    (λ _. test (eqb n 512) 9 _ (own 512 9 refl refl (omega arith) (omega arith))
    (λ _. test (eqb n 1024) 10 _ (own 1024 10 refl refl (omega arith) (omega arith))
    (λ _. test (eqb n 2048) 11 _ (own 2048 11 refl refl (omega arith) (omega arith))
    (λ _. test (eqb n 4096) 12 _ (own 4096 12 refl refl (omega arith) (omega arith))
    (λ _. test (eqb n 8192) 13 _ (own 8192 13 refl refl (omega arith) (omega arith))
    (λ _. test (eqb n 16384) 14 _ (own 16384 14 refl refl (omega arith) (omega arith))
    (λ _. test (eqb n 32768) 15 _ (own 32768 15 refl refl (omega arith) (omega arith))
    (λ _. test (leb n 256) 6 7 (λ e. in8 (leb-true n 256 e)) (λ _. in16))))))))))))))
  where
    test : (b : Bool) (x y : ℕ) → (b ≡ true → SizeCoded n x) → (b ≡ false → SizeCoded n y) → SizeCoded n (cond b x y)
    test = by_test (SizeCoded n)

    in8 : n ≤ 256 → SizeCoded n 6
    in8 h = record {
      some = omega arith;
      most = omega arith;
      read = spells_last _ (spells_bits 8 (omega arith)) (spells_value (omega arith) spells_done);
    }

    in16 : SizeCoded n 7
    in16 = record {
      some = omega arith;
      most = omega arith;
      read = spells_last _ (spells_bits 16 (omega arith)) (spells_checked 4 _ (lt-ltb (n - 1) 65535 (omega arith)) (spells_value (omega arith) spells_done));
    }

-- ---- the header after its first four bytes

-- a number within its limit
limited : (b n : ℕ) → b ≤ 1 → n ≤ number_limit b → (n < 2 ^ 36) × ((eqb b 1 || leb n 2147483647) ≡ true)
unfolding number_limit
limited zero n h l = (omega arith, le-leb n 2147483647 l)
limited (suc zero) n h l = (omega arith, refl)
limited (suc (suc b)) n h l = absurd (omega arith)

spells_time : (b n : ℕ) {before : List ℕ} → b ≤ 1 → n ≤ number_limit b → Spells before (block_time b) (bits_of_bytes (number_bytes n)) (time_of b n)
unfolding block_time
spells_time b n h l =
    let f = limited b n h l in
    spells_last _ (spells_number n f.0) (spells_checked 5 _ f.1 spells_done)

spells_sum : {before : List ℕ} → Spells before header_sum (bits_of 8 (crc8 before)) tt
unfolding header_sum
spells_sum {before} =
    spells_then _ spells_passed (spells_last _ (spells_bits 8 (crc8-below before)) (spells_require 6 (eq-eqb (crc8 before) (crc8 before) refl)))

-- ---- the whole header

abbrev pub header_of : Option ℕ → FrameSetting → FrameHeader
header_of rate set = record {
  time = time_of set.blocking set.number;
  size = set.size;
  rate = rate;
  channels = assignment set.channels;
  bits = set.bits;
}

module _ (set : FrameSetting) {count : ℕ} (ok : Allowed set count) where
  codes_of : Codes
  codes_of = record {
    blocking = set.blocking;
    size = size_code set.size;
    rate = 0;
    channels = assignment set.channels;
    bits = set.bits;
  }

  size_is : SizeCoded set.size (size_code set.size)
  size_is = size-coded set.size ok.some ok.most

  spells_codes : Spells [] codes (code_bits set) codes_of
  unfolding codes code_bits codes_of
  spells_codes =
      spells_as (simp append_assoc)
      (spells_bind _ (spells_sync set.blocking ok.blocking)
      (spells_bind _ (spells_size_and_rate (size_code set.size) size_is.some size_is.most)
      (spells_last _ (spells_channels_and_bits set.channels ok.channels ok.depth) spells_done)))

  spells_after-codes : Spells (code_bits set) (header_after_codes codes_of) (bits_of_bytes (number_bytes set.number) ++ size_bits set.size ++ bits_of 8 (crc8 (field_bits set))) (header_of None set)
  unfolding header_after_codes field_bits size_bits codes_of rate_bits sample_rate bits_of
  spells_after-codes =
      spells_as (sym (append_assoc (bits_of_bytes (number_bytes set.number)) (size_bits set.size) (bits_of 8 (crc8 (field_bits set)))))
      (spells_bind _ (spells_time set.blocking set.number ok.blocking ok.number)
      (spells_bind _ size_is.read
      (spells_then _ (spells_bits 0 {v = 0} (omega arith))
      (spells_last _ spells_sum spells_done))))

  -- as it is read: the writer leaves the rate to the stream
  pub spells_header : Spells [] header (header_bits set) (header_of None set)
  unfolding header header_bits field_bits
  spells_header = spells_as (simp append_assoc) (spells_bind _ spells_codes spells_after-codes)
