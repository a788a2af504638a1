-- Nothing where there is no room; else the fields, and the check sum of their bytes. Assumes nothing.
use native.Mathlib.Omega.{arith}
use Rattle.rfc9639.proofs.LengthBound.{header-whole}
use Rattle.header_writer.proofs.WrittenHeader.{room_for, nothing_written, sum_completes_header}
use Rattle.header_writer.proofs.write_header.Goals as goal

pub returns-then-header_length-room : goal.returns-then-header_length-room
returns-then-header_length-room c =
    sum_completes_header _ c.new-writer.ensures.0 c.new-writer.ensures.1 (room_for _ c.header_length.ensures c.if-header_length-room.true)
    c.write_fields.ensures c.sum_before_pen-sum.ensures c.write_bits.ensures

pub returns-else-header_length-room : goal.returns-else-header_length-room
returns-else-header_length-room c =
    nothing_written _ c.new-writer.ensures.0 c.new-writer.ensures.1
    (omega (arith, c.header_length.ensures, c.if-header_length-room.false, header-whole c.args.set))
