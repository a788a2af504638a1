-- `write_plain` meets its contract: a turn for each sample (Rows). Assumes nothing.
use lib.ListN.{take}
use Rattle.subframe_samples.specs.Sources.{stored_by}
use Rattle.bit_writer.proofs.RowLoops.{Unwritten}
use Rattle.subframe_writer.proofs.SubframePieces.{sample_bits}
use Rattle.subframe_writer.proofs.write_plain.Given as goal

abbrev pub invariant-loop-i : goal.invariant-loop-i
invariant-loop-i l = Unwritten (sample_bits l.width) (take l.most (stored_by l.source)) l.initial.writer l.i l.writer
