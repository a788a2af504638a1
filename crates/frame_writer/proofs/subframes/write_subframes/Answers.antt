-- `write_subframes` meets its contract: a turn for each subframe, as planned (Rows). Assumes nothing.
use Prim.Native.Nat.{◌<◌}
use native.Mathlib.Omega.{arith}
use Rattle.rfc9639.specs.HeaderCodes.{assignment, channel_count}
use Rattle.rfc9639.specs.Write.{subframes_bits}
use Rattle.rfc9639.proofs.Lists.{length-lanes, channels_between}
use Rattle.bit_writer.proofs.RowLoops.{begin, end}
use Rattle.frame_writer.proofs.SubframeWrites.{planned_at, lane-next}
use Rattle.frame_writer.proofs.subframes.write_subframes.Goals as goal

pub loop-c-init : goal.loop-c-init
loop-c-init c = begin _

pub bounds-choices-c : goal.bounds-choices-c
bounds-choices-c c = omega (arith, c.channels_of_code-c-end.ensures, (channels_between c.args.set.channels).1)

pub offset_bounds-choices-c : goal.offset_bounds-choices-c
offset_bounds-choices-c c = omega (arith, c.channels_of_code-c-end.ensures, (channels_between c.args.set.channels).1)

pub overflow_cast-c : goal.overflow_cast-c
overflow_cast-c c = record { fits = omega (arith, c.channels_of_code-c-end.ensures, (channels_between c.args.set.channels).1) }

pub loop-c-preserved : goal.loop-c-preserved
loop-c-preserved c =
    let more : c.loop-c.c < channel_count (assignment c.args.set.channels) = omega (arith, c.channels_of_code-c-end.ensures) in
    lane-next _ _ _ _ c.loop-c.invariant more (planned_at _ _ _ _ _ c.requires.1 _ _ more) c.write_lane.ensures

pub returns : goal.returns
unfolding subframes_bits
returns c = end c.loop-c.invariant (rw (length-lanes _) (omega (arith, c.channels_of_code-c-end.ensures)))
