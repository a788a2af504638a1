-- Any two outcomes that meet the contract are equal: the writer, with its output. Assumes nothing.
use mathlib.Core.Path.{refl, ap}
use Rattle.reading.proofs.Outcome.{OneOutcome}
use Rattle.bit_writer.proofs.Outcome.{writer_one}
use Rattle.subframe_writer.specs.contracts.write_subframe as write_subframe
use Rattle.subframe_writer.proofs.write_subframe.Reads as write_subframe_reads

pub write_subframe-one : OneOutcome write_subframe.ended write_subframe_reads.Learnt
write_subframe-one κs args r r' left left' p q = (refl, ap (λ l. (tt, (tt, (tt, (l, tt))))) (writer_one p q))
