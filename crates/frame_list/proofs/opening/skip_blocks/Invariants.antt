-- `frame_list::opening::skip_blocks` meets its contract: each look moves on along the card. Assumes nothing.
use mathlib.Core.Path.{◌≡◌}
use lib.ListN.{length, take}
use Rattle.frame_list.specs.CardProgress.{Sound, ahead}
use Rattle.frame_list.proofs.BlockTurns.{Skipping}
use Rattle.frame_list.proofs.opening.skip_blocks.Given as goal

abbrev pub invariant-loop-next : goal.invariant-loop-next
invariant-loop-next l = Sound l.skip.card (length l.initial.window) × (length l.window ≡ length l.initial.window) × Skipping (take l.initial.skip.card.held l.initial.window) l.initial.skip l.window l.skip

abbrev pub decreases-loop-next : goal.decreases-loop-next
decreases-loop-next l = ahead l.skip.card
