-- `sample` meets its contract: the index lies in the range that `channel` answers. Assumes nothing.
use native.Mathlib.Omega.{arith}
use Rattle.block.proofs.BlockAccess.{channel-range}
use Rattle.block.proofs.sample.Goals as goal

pub offset_bounds-samples-start : goal.offset_bounds-samples-start
offset_bounds-samples-start c = omega (arith, channel-range _ _ _ c.in_ok-start.ensures)

pub bounds-samples-start : goal.bounds-samples-start
bounds-samples-start c = omega (arith, channel-range _ _ _ c.in_ok-start.ensures)
