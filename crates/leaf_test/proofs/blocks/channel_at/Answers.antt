-- `channel_at`: the range that `channel` answers lies in the samples. Assumes nothing.
use Rattle.std.proofs.Common.{arith}
use Rattle.block.proofs.BlockAccess.{channel-range}
use Rattle.leaf_test.proofs.blocks.channel_at.Goals as goal

pub offset_bounds-s-start : goal.offset_bounds-s-start
offset_bounds-s-start c = omega (arith, channel-range _ _ _ c.in-Ok.ensures)

pub slice_bounds-print-count : goal.slice_bounds-print-count
slice_bounds-print-count c = omega (arith, channel-range _ _ _ c.in-Ok.ensures)

pub slice_bounds-print-start : goal.slice_bounds-print-start
slice_bounds-print-start c = omega (arith, channel-range _ _ _ c.in-Ok.ensures)

pub slice_bounds-print-end : goal.slice_bounds-print-end
slice_bounds-print-end c = omega (arith, channel-range _ _ _ c.in-Ok.ensures)
