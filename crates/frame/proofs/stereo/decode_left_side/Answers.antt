-- The loop of `decode_left_side`: after i turns the first i pairs are joined. Assumes nothing.
use native.Mathlib.Omega.{arith}
use mathlib.Core.Path.{◌∙◌}
use borrow.Author.Rules.{rules}
use Rattle.rfc9639.specs.Stereo.{right_of}
use Rattle.frame.proofs.StereoPairs.{first, begin, step_right, end, pairs-left-side}
use Rattle.frame.proofs.stereo.decode_left_side.Goals as goal

pub loop-i-init : goal.loop-i-init
loop-i-init c = begin _ _ c.requires first right_of

pub loop-i-preserved : goal.loop-i-preserved
unfolding right_of
loop-i-preserved c =
    step_right c.loop-i.invariant (omega arith) (record { sfits = search rules }) (record { sfits = search rules }) c.wrapping_sub.result
    (record { sfits = c.wrapping_sub.type_inv }) c.wrapping_sub.ensures

pub returns : goal.returns
returns c = end c.loop-i.invariant (omega arith) ∙ pairs-left-side _ _ c.requires
