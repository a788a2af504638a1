-- `frame_list::read_card` meets its contract: each turn reads further and keeps the list the same. Assumes nothing.
use mathlib.Core.Path.{◌∙◌, subst}
use Rattle.frame_list.specs.CardProgress.{Sound}
use Rattle.frame_list.proofs.CardTurns.{so_far_on, so_far-runs}
use Rattle.frame_list.proofs.read_card.Goals as goal

pub loop-next-preserved : goal.loop-next-preserved
loop-next-preserved c =
    let i = c.loop-next.invariant in
    let g = rw i.2 at c.in-Continue.ensures in
    (subst (Sound c.in-Continue.next) i.1 g.sound, c.advance.auto.window ∙ i.1, c.advance.auto.samples ∙ i.2, so_far_on _ _ _ _ _ i.3 _ _ g)

pub returns-in-Break : goal.returns-in-Break
returns-in-Break c =
    let i = c.loop-next.invariant in
    so_far-runs _ _ _ _ _ i.3 _ i.0 _ (rw i.2 at c.in-Break.ensures)
