-- `frame_list::opening::pass_heads` meets its contract: each head leads to the next block, and is past the last. Assumes
-- nothing.
use Prim.Native.Nat.{◌-◌}
use lib.ListN.{length}
use Rattle.frame_list.proofs.MetadataBlocks.{Hopping}
use Rattle.frame_list.proofs.opening.pass_heads.Given as goal

abbrev pub invariant-loop-last : goal.invariant-loop-last
invariant-loop-last l = Hopping l.bytes l.initial.pass l.initial.last l.pass l.last

abbrev pub decreases-loop-last : goal.decreases-loop-last
decreases-loop-last l = length l.bytes - l.pass
