-- The end of a frame: where the pen stands; it is the definition's `footed (padded_to_byte ..)`. Assumes nothing.
use Prim.Native.Nat.{ℕ, ◌+◌, ◌-◌, ◌*◌, ◌/◌, ◌%◌, ◌≤◌}
use native.Mathlib.Omega.{arith}
use mathlib.Core.Path.{◌≡◌, refl, ap, sym, ◌∙◌}
use mathlib.Core.List.{List, ◌++◌}
use lib.ListN.{length, take, drop, length-drop, take-append-drop}
use lib.Seq.{length-take-le}
use Rattle.reading.specs.Bytes.{bits_of_bytes}
use Rattle.reading.specs.NumbersAsBits.{bits_of, bytes_of, spelt}
use Rattle.reading.proofs.NumbersAsBits.{Binary, bits_of-zero}
use Rattle.rfc9639.specs.CheckSums.{crc16}
use Rattle.rfc9639.specs.Frame.{padding}
use Rattle.rfc9639.specs.Write.{padded_to_byte, footed}
use Rattle.rfc9639.proofs.LengthBound.{length-padded_to_byte}
use Rattle.rfc9639.proofs.FrameBits.{bits-padded_to_byte}
use Rattle.bit_writer.specs.declared.Pen.{Pen}
use Rattle.bit_writer.specs.PenWrites.{State, inked, fresh, Writes}
use Rattle.bit_writer.proofs.InkedBits.{inked_append, inked-before, inked-part}
use Rattle.frame_writer.specs.Private.{filled, summed}

-- ---- the definition's words

module _ (bs s : List ℕ) (b : Binary bs) (room : (length bs + 7) / 8 + 2 ≤ length s) where
  m : ℕ
  m = length bs / 8

  -- the pen holds the bits past the last whole byte
  inked-fresh : inked bs fresh s ≡ record { pen = record { byte = m; held = length (drop (8 * m) bs); bits = spelt 0 (drop (8 * m) bs) }; bytes = bytes_of m (take (8 * m) bs) ++ drop m s }
  unfolding m
  inked-fresh =
      ap (λ x. inked x fresh s) (sym (take-append-drop (8 * m) bs))
      ∙ inked-part (take (8 * m) bs) (drop (8 * m) bs) s m (length-take-le (8 * m) bs (omega arith)) (omega (arith, length-drop (8 * m) bs)) (omega arith)

  -- the bytes before the CRC-16 are the padded bits
  bytes-before-sum : bits_of_bytes (take (inked (padded_to_byte bs) fresh s).pen.byte (inked (padded_to_byte bs) fresh s).bytes) ≡ padded_to_byte bs
  bytes-before-sum = inked-before (padded_to_byte bs) s ((length bs + 7) / 8) (bits-padded_to_byte b).bits (length-padded_to_byte bs) (omega arith) refl

  module _ {p : Pen} {t : List ℕ} (e : Writes bs fresh s p t) where
    held-rest : p.held ≡ length bs % 8
    unfolding m
    held-rest = let h : p.held ≡ length (drop (8 * m) bs) = ap (λ (st : State). st.pen.held) (e ∙ inked-fresh) in omega (arith, h, length-drop (8 * m) bs)

    filled_is_padded : filled p t ≡ inked (padded_to_byte bs) fresh s
    unfolding filled padded_to_byte padding
    filled_is_padded =
        let k : ℕ = (8 - length bs % 8) % 8 in
        ap (λ (h : ℕ). inked (bits_of ((8 - h) % 8) 0) p t) held-rest ∙ ap (λ (st : State). inked (bits_of k 0) st.pen st.bytes) e
        ∙ sym (inked_append bs (bits_of k 0) fresh s b.bits) ∙ ap (λ (z : List ℕ). inked (bs ++ z) fresh s) (bits_of-zero k)

    -- the bits, padded and with their CRC-16, are the definition's
    pub footed_is : summed (filled p t) ≡ inked (footed (padded_to_byte bs)) fresh s
    unfolding summed footed
    footed_is =
        ap summed filled_is_padded
        ∙ ap (λ (z : List ℕ). inked (bits_of 16 (crc16 z)) (inked (padded_to_byte bs) fresh s).pen (inked (padded_to_byte bs) fresh s).bytes) bytes-before-sum
        ∙ sym (inked_append (padded_to_byte bs) (bits_of 16 (crc16 (padded_to_byte bs))) fresh s (bits-padded_to_byte b).bits)
