-- `write_subframes` meets its contract: a turn for each subframe, as planned (Rows). Assumes nothing.
use Rattle.rfc9639.specs.HeaderCodes.{assignment}
use Rattle.rfc9639.specs.Write.{lanes, lane_bits}
use Rattle.bit_writer.proofs.RowLoops.{Unwritten}
use Rattle.frame_writer.proofs.subframes.write_subframes.Given as goal

abbrev pub invariant-loop-c : goal.invariant-loop-c
invariant-loop-c l = Unwritten (lane_bits l.set.bits l.set.size l.samples) (lanes (assignment l.set.channels)) l.initial.writer l.c l.writer
