-- `frame_list::opening::read_start` meets its contract: each look at the first bytes sees more of them. Assumes nothing.
use mathlib.Core.Path.{◌≡◌}
use lib.ListN.{length}
use Rattle.frame_list.specs.CardProgress.{ahead}
use Rattle.frame_list.specs.Opening.{Bare}
use Rattle.frame_list.proofs.opening.read_start.Given as goal

abbrev pub invariant-loop-next : goal.invariant-loop-next
invariant-loop-next l = Bare l.card (length l.initial.window) × (length l.window ≡ length l.initial.window)

abbrev pub decreases-loop-next : goal.decreases-loop-next
decreases-loop-next l = ahead l.card
