-- The loop inks the bytes after the first, the highest bits first; its invariant is Following. Assumes nothing.
use Rattle.header_writer.proofs.WrittenNumber.{Following}
use Rattle.header_writer.proofs.coded.write_followers.Given as goal

abbrev pub invariant-loop-left : goal.invariant-loop-left
invariant-loop-left l = Following l.v l.n l.initial.writer l.left l.writer
