-- `quotient_sums` meets its contract: a turn for each residual (Tallied). Assumes nothing.
use Rattle.rfc9639.specs.SubframeCoding.{fixed_residuals}
use Rattle.subframe_samples.specs.Sources.{stored_by}
use Rattle.subframe_choice.proofs.QuotientSums.{Tallied}
use Rattle.subframe_choice.proofs.tally.quotient_sums.Given as goal

abbrev pub invariant-loop-j : goal.invariant-loop-j
invariant-loop-j l = Tallied (fixed_residuals l.order (stored_by l.source)) l.sums l.j
