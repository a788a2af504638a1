-- `add_quotients` meets its contract: a turn for each sum (Joining). Assumes nothing.
use Rattle.subframe_choice.proofs.QuotientSums.{QuotientsAdded}
use Rattle.subframe_choice.proofs.tally.add_quotients.Given as goal

abbrev pub invariant-loop-k : goal.invariant-loop-k
invariant-loop-k l = QuotientsAdded l.f l.initial.sums l.sums l.k
