-- `plan_frame` meets its contract: a turn for each subframe (Planned, Counted). Assumes nothing.
use native.Mathlib.Omega.{arith}
use mathlib.Core.Path.{refl}
use Rattle.rfc9639.proofs.Lists.{channels_between}
use Rattle.frame_writer.proofs.SubframeChoices.{begin, step, at_end, planned_all}
use Rattle.frame_writer.proofs.SubframeBits.{counted_none, counted-more, counted-all}
use Rattle.frame_writer.proofs.plan.plan_frame.Goals as goal

pub loop-c-init : goal.loop-c-init
loop-c-init c = (begin _ _ (rw c.channels_of_code-c-end.ensures (channels_between _).1) _ refl, counted_none _ _ _ _)

pub overflow_add-bits : goal.overflow_add-bits
overflow_add-bits c =
    let next = counted-more _ _ _ _ c.loop-c.invariant.1 c.requires.1 c.requires.2 c.choose_lane-choice.ensures in
    record { fits = omega (arith, next.small) }

pub loop-c-preserved : goal.loop-c-preserved
loop-c-preserved c = (
  step _ _ c.loop-c.invariant.0 c.loop-c-test.true _ c.choose_lane-choice.ensures,
  counted-more _ _ _ _ c.loop-c.invariant.1 c.requires.1 c.requires.2 c.choose_lane-choice.ensures,
)

pub returns : goal.returns
returns c =
    let i = c.loop-c.invariant in let n = c.channels_of_code-c-end.ensures in (
      planned_all _ _ _ _ i.0 c.loop-c-test.false n,
      counted-all _ _ i.1 (at_end _ _ i.0 c.loop-c-test.false) n,
      omega (arith, i.0.few, i.0.within, i.1.small),
    )
