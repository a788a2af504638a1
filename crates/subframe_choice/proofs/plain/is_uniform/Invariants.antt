-- `is_uniform` meets its contract: a turn for each sample after the first (Alike). Assumes nothing.
use Rattle.subframe_samples.specs.Sources.{stored_by}
use Rattle.subframe_choice.proofs.EqualSamples.{Alike}
use Rattle.subframe_choice.proofs.plain.is_uniform.Given as goal

abbrev pub invariant-loop-i : goal.invariant-loop-i
invariant-loop-i l = Alike (stored_by l.source) l.i
