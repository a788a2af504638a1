-- The length bound: a frame's length, and that it is within the bound for all settings and samples. Assumes nothing.
use Prim.Native.Nat.{ℕ, zero, suc, ◌+◌, ◌-◌, ◌*◌, ◌/◌, ◌%◌, ◌≤◌}
use native.Mathlib.Nat.{mul-le-mul_right}
use native.Mathlib.Omega.{arith}
use mathlib.Core.Path.{◌≡◌, refl, ap, ◌∙◌}
use mathlib.Core.List.{List, [], ◌∷◌, ◌++◌}
use lib.Dec.{ltb, eqb}
use lib.IntN.{ℤ}
use lib.ListN.{length, replicate, length-append, length-replicate}
use Rattle.reading.specs.Bytes.{bits_of_bytes}
use Rattle.reading.specs.NumbersAsBits.{bits_of, row}
use Rattle.reading.proofs.TestChains.{by_test}
use Rattle.reading.proofs.Bits.{length-bits_of_bytes}
use Rattle.reading.proofs.NumbersAsBits.{length-bits_of, length-packed}
use Rattle.rfc9639.specs.declared.FrameSetting.{FrameSetting}
use Rattle.rfc9639.specs.declared.Lane.{Lane}
use Rattle.rfc9639.specs.CheckSums.{crc8, crc16}
use Rattle.rfc9639.specs.HeaderCodes.{assignment, size_code, size_bits}
use Rattle.rfc9639.specs.Frame.{padding}
use Rattle.rfc9639.specs.SubframeCoding.{cost, subframe_bits}
use Rattle.rfc9639.specs.Write.{followers, number_bytes, code_bits, field_bits, header_bits, lanes, lane_width, stored, lane_bits, subframes_bits, padded_to_byte, footed, frame_bits, frame_bytes, most_bits, frame_bound}
use Rattle.rfc9639.proofs.FewestBits.{chosen_at_most-verbatim}
use Rattle.rfc9639.proofs.Lengths.{stored_at_most}
use Rattle.rfc9639.proofs.Costs.{cost-verbatim}
use Rattle.rfc9639.proofs.Evaluation.{computed_write}

-- ---- the header

-- n bytes follow the first
pub length-followers : (n v : ℕ) → length (followers n v) ≡ n
unfolding followers
length-followers zero v = refl
length-followers (suc n) v = ap suc (length-followers n v)

pub number_at-most : (v : ℕ) → length (number_bytes v) ≤ 7
unfolding number_bytes followers
number_at-most v =
    let P : List ℕ → Type 0 = λ l. length l ≤ 7 in
    by_test P (ltb v 0x80) _ _ (λ _. omega arith)
    (λ _. by_test P (ltb v 0x800) _ _ (λ _. omega arith)
    (λ _. by_test P (ltb v 0x1_0000) _ _ (λ _. omega arith)
    (λ _. by_test P (ltb v 0x20_0000) _ _ (λ _. omega arith)
    (λ _. by_test P (ltb v 0x400_0000) _ _ (λ _. omega arith)
    (λ _. by_test P (ltb v 0x8000_0000) _ _ (λ _. omega arith) (λ _. omega arith))))))

-- the block size takes whole bytes, two at most
size-bytes : (n : ℕ) → (length (size_bits n) ≡ 8 * (length (size_bits n) / 8)) × (length (size_bits n) ≤ 16)
unfolding size_bits bits_of
size-bytes n =
    let P : List ℕ → Type 0 = λ l. (length l ≡ 8 * (length l / 8)) × (length l ≤ 16) in
    by_test P (eqb (size_code n) 6) _ _ (λ _. omega arith) (λ _. by_test P (eqb (size_code n) 7) _ _ (λ _. omega arith) (λ _. omega arith))

length-codes : (set : FrameSetting) → length (code_bits set) ≡ 32
unfolding code_bits bits_of
length-codes set = refl

pub length_fields : (set : FrameSetting) → length (field_bits set) ≡ 32 + 8 * length (number_bytes set.number) + length (size_bits set.size)
unfolding field_bits
length_fields set =
    let number = bits_of_bytes (number_bytes set.number) in
    omega (
      arith,
      length-append (code_bits set ++ number) (size_bits set.size),
      length-append (code_bits set) number,
      length-codes set,
      length-bits_of_bytes (number_bytes set.number),
    )

pub length-header : (set : FrameSetting) → length (header_bits set) ≡ length (field_bits set) + 8
unfolding header_bits
length-header set = let fields = field_bits set in omega (arith, length-append fields (bits_of 8 (crc8 fields)), length-bits_of 8 (crc8 fields))

-- fields and header are whole bytes
pub fields_whole : (set : FrameSetting) → length (field_bits set) ≡ 8 * (length (field_bits set) / 8)
fields_whole set = omega (arith, length_fields set, size-bytes set.size)

pub header-whole : (set : FrameSetting) → length (header_bits set) ≡ 8 * (length (header_bits set) / 8)
header-whole set = omega (arith, length-header set, fields_whole set)

pub header_at-most : (set : FrameSetting) → length (header_bits set) ≤ 112
header_at-most set = omega (arith, length-header set, length_fields set, number_at-most set.number, size-bytes set.size)

-- ---- the subframes

subframe_at-most : (w : ℕ) (xs : List ℤ) → length (subframe_bits w xs) ≤ 8 + length xs * w
unfolding subframe_bits cost
subframe_at-most w xs = omega (arith, chosen_at_most-verbatim xs w, cost-verbatim w xs)

pub lane_at_most : (b n : ℕ) (xs : List ℤ) (lane : Lane) → length (lane_bits b n xs lane) ≤ 8 + n * lane_width b lane
unfolding lane_bits
lane_at_most b n xs lane =
    omega (arith, subframe_at-most (lane_width b lane) (stored n xs lane), mul-le-mul_right (lane_width b lane) (stored_at_most n xs lane))

subframes_at_most : (b n : ℕ) (xs : List ℤ) (ls : List Lane) → length (row (lane_bits b n xs) ls) ≤ most_bits b n ls
unfolding row most_bits
subframes_at_most b n xs [] = omega arith
subframes_at_most b n xs (lane ∷ ls) =
    omega (arith, length-append (lane_bits b n xs lane) (row (lane_bits b n xs) ls), lane_at_most b n xs lane, subframes_at_most b n xs ls)

-- ---- the frame

pub length-padded_to_byte : (s : List ℕ) → length (padded_to_byte s) ≡ 8 * ((length s + 7) / 8)
unfolding padded_to_byte padding
length-padded_to_byte s =
    omega (arith, length-append s (replicate ((8 - length s % 8) % 8) 0), length-replicate {A = ℕ} ((8 - length s % 8) % 8) 0)

-- the bytes that hold the header and the subframes, and two for the CRC-16
pub length-frame : (set : FrameSetting) (xs : List ℤ) → length (frame_bytes set xs) ≡ (length (header_bits set ++ subframes_bits set xs) + 7) / 8 + 2
unfolding frame_bytes frame_bits footed
length-frame set xs =
    let whole = padded_to_byte (header_bits set ++ subframes_bits set xs) in
    length-packed (whole ++ bits_of 16 (crc16 whole))
    ∙ (let e : length (whole ++ bits_of 16 (crc16 whole)) / 8 ≡ (length (header_bits set ++ subframes_bits set xs) + 7) / 8 + 2 = omega (arith, length-append whole (bits_of 16 (crc16 whole)), length-bits_of 16 (crc16 whole), length-padded_to_byte (header_bits set ++ subframes_bits set xs)) in e)

pub within-bound : (set : FrameSetting) (xs : List ℤ) → length (frame_bytes set xs) ≤ frame_bound set
unfolding frame_bound subframes_bits
within-bound set xs =
    let ls = lanes (assignment set.channels) in
    omega (
      arith,
      length-frame set xs,
      length-append (header_bits set) (row (lane_bits set.bits set.size xs) ls),
      header_at-most set,
      subframes_at_most set.bits set.size xs ls,
    )

-- ---- the two bounds that document 01 gives

pub record BoundChecks : Type 0 where
  -- one 16-bit channel, block 1
  pub mono_1 : frame_bound (record { channels = 0; bits = 16; blocking = 0; number = 0; size = 1 }) ≡ 19
  -- left/side, 16 bits, block 4096
  pub left-side_4096 : frame_bound (record { channels = 8; bits = 16; blocking = 0; number = 0; size = 4096 }) ≡ 16914

pub bound_checks : BoundChecks
unfolding computed_write
bound_checks = record { mono_1 = refl; left-side_4096 = refl }
