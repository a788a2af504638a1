-- The whole frame: header, subframes and end, one after the other. Assumes nothing.
use Prim.Native.Nat.{ℕ, ◌+◌, ◌/◌, ◌≤◌}
use native.Mathlib.Omega.{arith}
use mathlib.Core.Path.{◌≡◌, ap, ◌∙◌}
use mathlib.Core.List.{List, ◌++◌}
use lib.IntN.{ℤ}
use lib.ListN.{length, drop, length-append}
use Rattle.reading.specs.NumbersAsBits.{bytes_of, packed}
use Rattle.reading.proofs.NumbersAsBits.{Binary, binary_append}
use Rattle.rfc9639.specs.declared.FrameSetting.{FrameSetting}
use Rattle.rfc9639.specs.Write.{header_bits, subframes_bits, frame_bits, frame_bytes}
use Rattle.rfc9639.proofs.LengthBound.{length-frame, header-whole}
use Rattle.rfc9639.proofs.FrameBits.{bits-header, bits-subframes, length-frame_bits}
use Rattle.bit_writer.specs.declared.Pen.{Pen}
use Rattle.bit_writer.specs.PenWrites.{State, fresh, Writes}
use Rattle.bit_writer.proofs.InkedBits.{Good, fresh-good, inked-good, inked-whole}
use Rattle.bit_writer.proofs.ConsecutiveWrites.{writes_then}
use Rattle.header_writer.specs.HeaderResult.{header_written}
use Rattle.header_writer.proofs.WrittenHeader.{header_written-room}
use Rattle.frame_writer.specs.Private.{filled, summed}
use Rattle.frame_writer.proofs.FrameEnd.{footed_is}

-- its length
pub length_of_parts : (set : FrameSetting) (xs : List ℤ) {bits : ℕ} → bits ≡ length (subframes_bits set xs)
    → length (header_bits set) / 8 + (bits + 7) / 8 + 2 ≡ length (frame_bytes set xs)
length_of_parts set xs {bits} e = omega (arith, e, length-frame set xs, length-append (header_bits set) (subframes_bits set xs), header-whole set)

module _ (set : FrameSetting) (xs : List ℤ) (s : List ℕ) (room : length (frame_bytes set xs) ≤ length s) where
  unpadded : List ℕ
  unpadded = header_bits set ++ subframes_bits set xs

  unpadded-binary : Binary unpadded
  unfolding unpadded
  unpadded-binary = binary_append (bits-header set) (bits-subframes set xs)

  unpadded-room : (length unpadded + 7) / 8 + 2 ≤ length s
  unfolding unpadded
  unpadded-room = omega (arith, length-frame set xs)

  -- the header and the subframes
  module _ {h p : Pen} {t u : List ℕ} (e : ◌≡◌ {A = State} (record { pen = h; bytes = t }) (header_written set s)) (f : Writes (subframes_bits set xs) h t p u) where
    unpadded_written : Writes unpadded fresh s p u
    unfolding unpadded
    unpadded_written =
        writes_then (header_bits set) (subframes_bits set xs) fresh s (bits-header set).bits (e ∙ header_written-room set s (omega (arith, length-frame set xs, length-append (header_bits set) (subframes_bits set xs)))) f

    pub unpadded-good : Good p
    unpadded-good = inked-good unpadded fresh s unpadded-binary.bits fresh-good unpadded_written

    -- and the end
    pub frame_is : {q : Pen} {v : List ℕ} → ◌≡◌ {A = State} (record { pen = q; bytes = v }) (summed (filled p u)) → v ≡ frame_bytes set xs ++ drop (length (frame_bytes set xs)) s
    unfolding unpadded frame_bits frame_bytes packed
    frame_is {q} {v} g =
        let m = length (frame_bytes set xs) in
        let whole = inked-whole (frame_bits set xs) s m (length-frame_bits set xs) room in
        ap (λ (st : State). st.bytes) (g ∙ footed_is unpadded s unpadded-binary unpadded-room unpadded_written ∙ whole)
        ∙ ap (λ k. bytes_of k (frame_bits set xs) ++ drop m s) (let k : m ≡ length (frame_bits set xs) / 8 = omega (arith, length-frame_bits set xs) in k)
