-- `write_rice` meets its contract: the quotient, then the remainder. Assumes nothing.
use Rattle.reading.proofs.NumbersAsBits.{bits-unary}
use Rattle.bit_writer.proofs.ConsecutiveWrites.{appends_as, appended_once, append_then}
use Rattle.subframe_writer.proofs.SubframePieces.{rice_is}
use Rattle.subframe_writer.proofs.residual.write_rice.Goals as goal

pub returns : goal.returns
returns c =
    appends_as (rice_is c.args.k c.ranges.r c.fold-folded.ensures c.shift_right.ensures)
    (append_then (appended_once (record { bits = bits-unary _ }) c.write_unary.ensures) _ c.write_bits.ensures)
