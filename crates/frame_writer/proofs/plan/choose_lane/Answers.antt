-- `choose_lane` meets its contract: the choice for a subframe is that for its lane. Assumes nothing.
use mathlib.Core.Path.{ap, ◌∙◌}
use Rattle.rfc9639.specs.Write.{lane_width}
use Rattle.frame_writer.proofs.SubframeChoices.{chosen-lane, same-stored}
use Rattle.frame_writer.proofs.plan.choose_lane.Goals as goal

pub returns : goal.returns
returns c =
    let s = c.source_for-source.ensures in
    chosen-lane _ _ _ _ c.choose.ensures (c.lane_width.ensures ∙ ap (lane_width c.args.set.bits) s.2) (same-stored s.1 s.0 s.2)
