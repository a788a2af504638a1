-- The loop of `decode_right_side`: after i turns the first i pairs are joined. Assumes nothing.
use native.Mathlib.Omega.{arith}
use mathlib.Core.Path.{◌∙◌}
use borrow.Author.Rules.{rules}
use Rattle.rfc9639.specs.Stereo.{left_of}
use Rattle.frame.proofs.StereoPairs.{second, begin, step_left, end, pairs-side_right}
use Rattle.frame.proofs.stereo.decode_right_side.Goals as goal

pub loop-i-init : goal.loop-i-init
loop-i-init c = begin _ _ c.requires left_of second

pub loop-i-preserved : goal.loop-i-preserved
unfolding left_of
loop-i-preserved c =
    step_left c.loop-i.invariant (omega arith) (record { sfits = search rules }) (record { sfits = search rules }) c.wrapping_add.result
    (record { sfits = c.wrapping_add.type_inv }) c.wrapping_add.ensures

pub returns : goal.returns
returns c = end c.loop-i.invariant (omega arith) ∙ pairs-side_right _ _ c.requires
