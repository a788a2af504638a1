-- `write_rices` meets its contract: a turn for each residual (Rows). Assumes nothing.
use Rattle.rfc9639.specs.SubframeCoding.{rice_bits, fixed_residuals}
use Rattle.subframe_samples.specs.Sources.{stored_by}
use Rattle.bit_writer.proofs.RowLoops.{Unwritten}
use Rattle.subframe_writer.proofs.residual.write_rices.Given as goal

abbrev pub invariant-loop-j : goal.invariant-loop-j
invariant-loop-j l = Unwritten (rice_bits l.k) (fixed_residuals l.order (stored_by l.source)) l.initial.writer l.j l.writer
