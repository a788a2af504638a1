-- `write_frame` meets its contract: the three tests, and the frame. Assumes nothing.
use native.Mathlib.Omega.{arith}
use mathlib.Core.Path.{sym, ◌∙◌}
use Rattle.frame_writer.proofs.WholeFrame.{length_of_parts}
use Rattle.frame_writer.proofs.WriteAnswers.{bits_between, in_range_lem, refuse-setting, refuse-sample, refuse-room, frame_written}
use Rattle.frame_writer.proofs.write_frame.Goals as goal

pub returns-then-not-is_allowed : goal.returns-then-not-is_allowed
returns-then-not-is_allowed c = refuse-setting _ _ _ (sym c.is_allowed.ensures ∙ c.if-not-is_allowed.true)

pub all_fit-requires : goal.all_fit-requires
all_fit-requires c = bits_between _ _ (sym c.is_allowed.ensures ∙ c.if-not-is_allowed.false)

pub returns-then-not-all_fit : goal.returns-then-not-all_fit
returns-then-not-all_fit c =
    refuse-sample _ _ _ (sym c.is_allowed.ensures ∙ c.if-not-is_allowed.false) (sym c.all_fit.ensures ∙ c.if-not-all_fit.true)

pub plan_frame-plan-requires : goal.plan_frame-plan-requires
plan_frame-plan-requires c = in_range_lem _ _ (sym c.is_allowed.ensures ∙ c.if-not-is_allowed.false)

pub frame_length-length-requires : goal.frame_length-length-requires
frame_length-length-requires c = omega (arith, c.plan_frame-plan.ensures.2)

pub returns-then-out-length : goal.returns-then-out-length
returns-then-out-length c =
    refuse-room _ _ _ (sym c.is_allowed.ensures ∙ c.if-not-is_allowed.false) (sym c.all_fit.ensures ∙ c.if-not-all_fit.false)
    (c.frame_length-length.ensures ∙ length_of_parts _ _ c.plan_frame-plan.ensures.1) c.if-out-length.true

pub write_planned-requires : goal.write_planned-requires
write_planned-requires c = (
  in_range_lem _ _ (sym c.is_allowed.ensures ∙ c.if-not-is_allowed.false),
  c.plan_frame-plan.ensures.0,
  rw (sym (c.frame_length-length.ensures ∙ length_of_parts _ _ c.plan_frame-plan.ensures.1)) c.if-out-length.false,
)

pub returns : goal.returns
returns c =
    frame_written _ _ _ (sym c.is_allowed.ensures ∙ c.if-not-is_allowed.false) (sym c.all_fit.ensures ∙ c.if-not-all_fit.false)
    (c.frame_length-length.ensures ∙ length_of_parts _ _ c.plan_frame-plan.ensures.1) c.if-out-length.false c.write_planned.ensures
