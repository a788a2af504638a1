-- `frame_length` meets its contract: a header has at most 14 bytes. Assumes nothing.
use native.Mathlib.Omega.{arith}
use Rattle.rfc9639.proofs.LengthBound.{header_at-most}
use Rattle.frame_writer.proofs.frame_length.Goals as goal

pub overflow_add-result-2 : goal.overflow_add-result-2
overflow_add-result-2 c = record { fits = omega (arith, c.header_length.ensures, c.requires, header_at-most c.args.set) }

pub overflow_add-result-3 : goal.overflow_add-result-3
overflow_add-result-3 c = record { fits = omega (arith, c.header_length.ensures, c.requires, header_at-most c.args.set) }
