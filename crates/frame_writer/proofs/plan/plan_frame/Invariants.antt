-- `plan_frame` meets its contract: a turn for each subframe (Planned, Counted). Assumes nothing.
use Rattle.rfc9639.specs.HeaderCodes.{assignment}
use Rattle.frame_writer.specs.Private.{lane_choice, lane_for}
use Rattle.frame_writer.proofs.SubframeChoices.{Planned}
use Rattle.frame_writer.proofs.SubframeBits.{Counted}
use Rattle.frame_writer.proofs.plan.plan_frame.Given as goal

abbrev pub invariant-loop-c : goal.invariant-loop-c
invariant-loop-c l = Planned (λ i. lane_choice l.set.bits l.set.size l.samples (lane_for l.set i)) l.c-end l.choices l.c
    × Counted l.set.bits l.set.size l.samples (assignment l.set.channels) l.bits l.c
