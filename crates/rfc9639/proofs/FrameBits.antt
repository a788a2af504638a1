-- The frame's bits: all that the writer writes is bits, and the frame's bytes have just these bits. Assumes nothing.
use Prim.Native.Nat.{ℕ, ◌+◌, ◌-◌, ◌*◌, ◌/◌, ◌^◌}
use native.Mathlib.Omega.{arith}
use mathlib.Core.Path.{◌≡◌}
use mathlib.Core.List.{List, ◌++◌}
use lib.Dec.{eqb}
use lib.IntN.{ℤ}
use lib.ListN.{length, take, length-append}
use Rattle.reading.specs.Bytes.{bits_of_bytes}
use Rattle.reading.specs.NumbersAsBits.{bits_of, unary, packed}
use Rattle.reading.proofs.TestChains.{by_test}
use Rattle.reading.proofs.Bits.{bits-bits_of_bytes}
use Rattle.reading.proofs.NumbersAsBits.{Binary, binary-bits_of, binary_append, bits-replicate, bits-bits_of, bits-unary, bits-row, length-bits_of, length-packed, bits_of_bytes-bytes_of}
use Rattle.rfc9639.specs.declared.Candidate.{Candidate}
use Rattle.rfc9639.specs.declared.Candidate.TheVariants.{Constant, Verbatim, Fixed}
use Rattle.rfc9639.specs.declared.FrameSetting.{FrameSetting}
use Rattle.rfc9639.specs.declared.Lane.{Lane}
use Rattle.rfc9639.specs.CheckSums.{crc8, crc16}
use Rattle.rfc9639.specs.Integers.{low}
use Rattle.rfc9639.specs.Frame.{padding}
use Rattle.rfc9639.specs.HeaderCodes.{assignment, size_code, size_bits, bits_code}
use Rattle.rfc9639.specs.SubframeCoding.{fold, rice_bits, residual_bits, fixed_residuals, plain, subframe_header_bits, coded_as, chosen, subframe_bits}
use Rattle.rfc9639.specs.Write.{number_bytes, code_bits, field_bits, header_bits, lanes, lane_width, stored, lane_bits, subframes_bits, padded_to_byte, footed, frame_bits, frame_bytes}
use Rattle.rfc9639.proofs.LengthBound.{length-padded_to_byte}

-- ---- the header

pub bits-codes : (set : FrameSetting) → Binary (code_bits set)
unfolding code_bits
bits-codes set =
    binary_append (binary_append (binary_append (binary_append (binary_append (binary_append (binary-bits_of 15 0x7ffc) (binary-bits_of 1 set.blocking)) (binary-bits_of 4 (size_code set.size))) (binary-bits_of 4 0)) (binary-bits_of 4 set.channels)) (binary-bits_of 3 (bits_code set.bits)))
    (binary-bits_of 1 0)

pub bits-size : (n : ℕ) → Binary (size_bits n)
unfolding size_bits
bits-size n =
    by_test Binary (eqb (size_code n) 6) _ _ (λ _. binary-bits_of 8 (n - 1))
    (λ _. by_test Binary (eqb (size_code n) 7) _ _ (λ _. binary-bits_of 16 (n - 1)) (λ _. record { bits = tt }))

pub bits-number : (v : ℕ) → Binary (bits_of_bytes (number_bytes v))
bits-number v = record { bits = bits-bits_of_bytes (number_bytes v) }

pub bits_fields : (set : FrameSetting) → Binary (field_bits set)
unfolding field_bits
bits_fields set = binary_append (binary_append (bits-codes set) (bits-number set.number)) (bits-size set.size)

pub bits-header : (set : FrameSetting) → Binary (header_bits set)
unfolding header_bits
bits-header set = binary_append (bits_fields set) (binary-bits_of 8 (crc8 (field_bits set)))

-- ---- the subframes

pub bits-plain : (w : ℕ) (xs : List ℤ) → Binary (plain w xs)
unfolding plain
bits-plain w xs = record { bits = bits-row _ xs (λ x. bits-bits_of w (low w x)) }

pub bits-rice : (k : ℕ) (r : ℤ) → Binary (rice_bits k r)
unfolding rice_bits
bits-rice k r = binary_append {bs = unary (fold r / 2 ^ k)} (record { bits = bits-unary (fold r / 2 ^ k) }) (binary-bits_of k (fold r))

bits-residual : (k : ℕ) (rs : List ℤ) → Binary (residual_bits k rs)
unfolding residual_bits
bits-residual k rs = binary_append (binary_append (binary_append (binary-bits_of 2 0) (binary-bits_of 4 0)) (binary-bits_of 4 k)) (record { bits = bits-row (rice_bits k) rs (λ r. (bits-rice k r).bits) })

pub bits-subframe_header_bits : (code : ℕ) → Binary (subframe_header_bits code)
unfolding subframe_header_bits
bits-subframe_header_bits code = binary_append (binary_append (binary-bits_of 1 0) (binary-bits_of 6 code)) (binary-bits_of 1 0)

pub bits-coded : (c : Candidate) (w : ℕ) (xs : List ℤ) → Binary (coded_as c w xs)
unfolding coded_as
bits-coded Constant w xs = binary_append (bits-subframe_header_bits 0) (bits-plain w (take 1 xs))
bits-coded Verbatim w xs = binary_append (bits-subframe_header_bits 1) (bits-plain w xs)
bits-coded (Fixed order k) w xs = binary_append (binary_append (bits-subframe_header_bits (8 + order)) (bits-plain w (take order xs))) (bits-residual k (fixed_residuals order xs))

pub bits-lane : (b n : ℕ) (xs : List ℤ) (lane : Lane) → Binary (lane_bits b n xs lane)
unfolding lane_bits subframe_bits
bits-lane b n xs lane = bits-coded (chosen (lane_width b lane) (stored n xs lane)) (lane_width b lane) (stored n xs lane)

pub bits-subframes : (set : FrameSetting) (xs : List ℤ) → Binary (subframes_bits set xs)
unfolding subframes_bits
bits-subframes set xs = record { bits = bits-row _ (lanes (assignment set.channels)) (λ lane. (bits-lane set.bits set.size xs lane).bits) }

-- ---- the frame

pub bits-padded_to_byte : {s : List ℕ} → Binary s → Binary (padded_to_byte s)
unfolding padded_to_byte
bits-padded_to_byte {s} h = binary_append h (record { bits = bits-replicate (padding (length s)) 0 (omega arith) })

module _ (set : FrameSetting) (xs : List ℤ) where
  bits-frame : Binary (frame_bits set xs)
  unfolding frame_bits footed
  bits-frame = binary_append (bits-padded_to_byte (binary_append (bits-header set) (bits-subframes set xs))) (binary-bits_of 16 (crc16 (padded_to_byte (header_bits set ++ subframes_bits set xs))))

  pub length-frame_bits : length (frame_bits set xs) ≡ 8 * length (frame_bytes set xs)
  unfolding frame_bits frame_bytes footed
  length-frame_bits =
      let s = padded_to_byte (header_bits set ++ subframes_bits set xs) in
      omega (
        arith,
        length-packed (s ++ bits_of 16 (crc16 s)),
        length-append s (bits_of 16 (crc16 s)),
        length-bits_of 16 (crc16 s),
        length-padded_to_byte (header_bits set ++ subframes_bits set xs),
      )

  pub bits_of-frame : bits_of_bytes (frame_bytes set xs) ≡ frame_bits set xs
  unfolding frame_bytes packed
  bits_of-frame = bits_of_bytes-bytes_of (length (frame_bits set xs) / 8) (frame_bits set xs) bits-frame.bits (omega (arith, length-frame_bits))
