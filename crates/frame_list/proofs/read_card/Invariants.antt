-- `frame_list::read_card` meets its contract: each turn reads further and keeps the list the same. Assumes nothing.
use mathlib.Core.Path.{◌≡◌}
use lib.ListN.{length, take}
use Rattle.frame_list.specs.CardProgress.{Sound, ahead}
use Rattle.frame_list.proofs.CardTurns.{SoFar}
use Rattle.frame_list.proofs.read_card.Given as goal

abbrev pub invariant-loop-next : goal.invariant-loop-next
invariant-loop-next l = Sound l.card (length l.initial.window) × (length l.window ≡ length l.initial.window) × (length l.samples ≡ length l.initial.samples) × SoFar (length l.initial.samples) l.initial.card (take l.initial.card.held l.initial.window) l.window l.card

abbrev pub decreases-loop-next : goal.decreases-loop-next
decreases-loop-next l = ahead l.card
