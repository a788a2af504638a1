-- `frame_list::opening::skip_blocks` meets its contract: each look moves on along the card. Assumes nothing.
use native.Mathlib.Omega.{arith}
use mathlib.Core.Path.{refl, ◌∙◌, subst}
use Rattle.frame_list.specs.CardProgress.{Sound}
use Rattle.frame_list.proofs.BlockTurns.{begin, skipping_on, skipping_frames, skipping_over}
use Rattle.frame_list.proofs.opening.skip_blocks.Goals as goal

pub loop-next-init : goal.loop-next-init
loop-next-init c = (c.requires.0, refl, begin _ c.args.start c.requires.1 c.requires.2)

pub loop-next-preserved : goal.loop-next-preserved
loop-next-preserved c =
    let i = c.loop-next.invariant in
    let g = rw c.in-On.is at c.in_ok-next.ensures in
    (subst (Sound c.in-On.next.card) i.1 g.moves.goes.sound, c.skip_turn.auto.window ∙ i.1, skipping_on _ _ _ _ i.2 (omega (arith, i.0.held_fits, i.1)) _ _ g)

pub returns-in-Frames : goal.returns-in-Frames
returns-in-Frames c =
    let i = c.loop-next.invariant in
    let g = rw c.in-Frames.is at c.in_ok-next.ensures in
    skipping_frames _ _ _ _ i.2 (omega (arith, i.0.held_fits, i.1)) _ _ c.skip_turn.auto.window g

pub returns-in_err-next : goal.returns-in_err-next
returns-in_err-next c =
    let i = c.loop-next.invariant in
    rw c.from_residual.ensures (skipping_over _ _ _ _ i.2 (omega (arith, i.0.held_fits, i.1)) _ i.0 _ c.in_err-next.ensures)
