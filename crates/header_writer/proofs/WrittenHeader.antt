-- The written header: the result where there is room for it, and where there is none. Assumes nothing.
use Prim.Native.Nat.{ℕ, ◌*◌, ◌/◌, ◌≤◌, ◌<◌}
use native.Mathlib.Omega.{arith}
use denote.MutBor.{MutBor}
use mathlib.Core.Path.{◌≡◌, ap, ap₂, sym, ◌∙◌}
use mathlib.Core.List.{List}
use borrow.Author.Tests.{le-leb, lt-leb}
use lib.ListN.{length, take}
use Rattle.reading.specs.Bytes.{bits_of_bytes}
use Rattle.reading.specs.NumbersAsBits.{bits_of}
use Rattle.rfc9639.specs.declared.FrameSetting.{FrameSetting}
use Rattle.rfc9639.specs.CheckSums.{crc8}
use Rattle.rfc9639.specs.Write.{field_bits, header_bits}
use Rattle.rfc9639.proofs.LengthBound.{length-header, fields_whole, header-whole}
use Rattle.rfc9639.proofs.FrameBits.{bits_fields}
use Rattle.bit_writer.specs.declared.Pen.{Pen}
use Rattle.bit_writer.specs.declared.BitWriter.{BitWriter}
use Rattle.bit_writer.specs.PenWrites.{State, inked, fresh, Writes, SameOutput, Appends}
use Rattle.bit_writer.proofs.InkedBits.{inked-before}
use Rattle.bit_writer.proofs.ConsecutiveWrites.{same_then, writes_then}
use Rattle.header_writer.specs.HeaderResult.{header_written}

-- the bytes of the fields
abbrev field_bytes : FrameSetting → ℕ
field_bytes set = length (field_bits set) / 8

module _ (set : FrameSetting) where
  module _ (s : List ℕ) where
    pub header_written-room : length (header_bits set) ≤ 8 * length s → header_written set s ≡ inked (header_bits set) fresh s
    unfolding header_written
    header_written-room h = rw (le-leb _ _ h)

    pub header_written-no_room : 8 * length s < length (header_bits set) → header_written set s ≡ record { pen = fresh; bytes = s }
    unfolding header_written
    header_written-no_room h = rw (lt-leb _ _ h)

    -- ---- the check sum

    few : length (header_bits set) ≤ 8 * length s → field_bytes set ≤ length s
    few room = omega (arith, room, fields_whole set, length-header set)

    -- of the bytes before the pen, written there, it completes the header
    sum_completes : length (header_bits set) ≤ 8 * length s → {p q : Pen} {t u : List ℕ} {x : ℕ} → Writes (field_bits set) fresh s p t
        → x ≡ crc8 (bits_of_bytes (take p.byte t)) → Writes (bits_of 8 x) p t q u → ◌≡◌ {A = State} (record { pen = q; bytes = u }) (header_written set s)
    unfolding header_bits
    sum_completes room e h f =
        let k : _ ≡ crc8 (field_bits set) = h ∙ ap crc8 (inked-before (field_bits set) s (field_bytes set) (bits_fields set).bits (fields_whole set) (few room) e) in
        writes_then (field_bits set) (bits_of 8 (crc8 (field_bits set))) fresh s (bits_fields set).bits e (rw k at f) ∙ sym (header_written-room room)

  -- ---- from the start of an output

  pub room_for : {n m : ℕ} → n ≡ length (header_bits set) / 8 → n ≤ m → length (header_bits set) ≤ 8 * m
  room_for e h = omega (arith, e, h, header-whole set)

  module _ {lent : MutBor (List ℕ)} {w : BitWriter} (at : w.out ≡ lent) (clean : w.pen ≡ fresh) where
    lent_output : SameOutput lent w.out
    lent_output = record { name = ap (λ o. o.ghost_name) at; place = ap (λ o. o.ref_ptr) at }

    -- where there is no room
    pub nothing_written : 8 * length lent.now < length (header_bits set)
        → SameOutput lent w.out × ◌≡◌ {A = State} (record { pen = w.pen; bytes = w.out.now }) (header_written set lent.now)
    nothing_written h = (lent_output, ap₂ (λ (p : Pen) (s : List ℕ). record { pen = p; bytes = s }) clean (ap (λ o. o.now) at) ∙ sym (header_written-no_room lent.now h))

    -- where there is
    pub sum_completes_header : length (header_bits set) ≤ 8 * length lent.now → {fields after : BitWriter} {x : ℕ} → Appends (field_bits set) w fields
        → x ≡ crc8 (bits_of_bytes (take fields.pen.byte fields.out.now)) → Appends (bits_of 8 x) fields after
        → SameOutput lent after.out × ◌≡◌ {A = State} (record { pen = after.pen; bytes = after.out.now }) (header_written set lent.now)
    sum_completes_header room {fields} {after} e h f = (
      same_then (same_then lent_output e.same) f.same,
      sum_completes lent.now room
          (e.written ∙ ap₂ (λ (p : Pen) (s : List ℕ). inked (field_bits set) p s) clean (ap (λ o. o.now) at)) h f.written,
    )
