-- The loop of `decode_mid_side`: after i turns the first i pairs are joined. Assumes nothing.
use native.Mathlib.Omega.{arith}
use mathlib.Core.Path.{◌∙◌}
use borrow.Author.Rules.{rules}
use Rattle.rfc9639.specs.Stereo.{left_of_mid, right_of_mid}
use Rattle.frame.proofs.StereoPairs.{begin, step_both, end, pairs-mid-side}
use Rattle.frame.proofs.stereo.decode_mid_side.Goals as goal

pub loop-i-init : goal.loop-i-init
loop-i-init c = begin _ _ c.requires left_of_mid right_of_mid

pub loop-i-preserved : goal.loop-i-preserved
loop-i-preserved c =
    step_both c.loop-i.invariant (omega arith) (record { sfits = search rules }) (record { sfits = search rules }) c.left_of_mid.result c.right_of_mid.result
    (record { sfits = c.left_of_mid.type_inv }) c.left_of_mid.ensures (record { sfits = c.right_of_mid.type_inv }) c.right_of_mid.ensures

pub returns : goal.returns
returns c = end c.loop-i.invariant (omega arith) ∙ pairs-mid-side _ _
