-- `choose` meets its contract: a turn for each order (Judged). Assumes nothing.
use Rattle.subframe_samples.specs.Sources.{stored_by}
use Rattle.subframe_choice.proofs.OrderChoice.{Judged}
use Rattle.subframe_choice.proofs.choose.Given as goal

abbrev pub invariant-loop-order : goal.invariant-loop-order
invariant-loop-order l = Judged l.width (stored_by l.source) l.best l.order
