-- All blocks up to the last one, as the definition reads them; each turn of the loop is nearer to the end of the input.
-- Assumes nothing.
use Prim.Native.Nat.{◌-◌, ◌*◌}
use lib.ListN.{length}
use Rattle.reading.specs.Places.{position}
use Rattle.stream.proofs.SkippedBlocks.{BlocksLeft}
use Rattle.stream.proofs.skip_blocks.Given as goal

abbrev pub invariant-loop-last : goal.invariant-loop-last
invariant-loop-last l = BlocksLeft l.s l.initial.p l.p

abbrev pub decreases-loop-last : goal.decreases-loop-last
decreases-loop-last l = 8 * length l.s - position l.p
