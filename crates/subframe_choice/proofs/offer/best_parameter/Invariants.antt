-- `best_parameter` meets its contract: a turn for each parameter (Offered). Assumes nothing.
use Rattle.subframe_choice.proofs.ParameterChoice.{Offered}
use Rattle.subframe_choice.proofs.offer.best_parameter.Given as goal

abbrev pub invariant-loop-k : goal.invariant-loop-k
invariant-loop-k l = Offered l.order l.head l.count l.sums l.initial.found l.found l.k
