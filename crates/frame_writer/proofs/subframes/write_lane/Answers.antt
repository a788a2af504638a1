-- `write_lane` meets its contract: a subframe is what its lane stores, in the given way. Assumes nothing.
use mathlib.Core.Path.{ap, ◌∙◌}
use Rattle.rfc9639.specs.Write.{lane_width}
use Rattle.bit_writer.proofs.ConsecutiveWrites.{appends_as}
use Rattle.frame_writer.proofs.SubframeChoices.{same-stored}
use Rattle.frame_writer.proofs.SubframeWrites.{lane_written}
use Rattle.frame_writer.proofs.subframes.write_lane.Goals as goal

pub returns : goal.returns
returns c =
    let s = c.source_for-source.ensures in
    appends_as (lane_written _ _ _ _ _ c.requires.0 (c.lane_width-width.ensures ∙ ap (lane_width c.args.set.bits) s.2) (same-stored s.1 s.0 s.2)) c.write_subframe.ensures
