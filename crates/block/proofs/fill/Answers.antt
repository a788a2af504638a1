-- `fill` meets its contract: the samples before `i` are x (Filled). Assumes nothing.
use native.Mathlib.Omega.{arith}
use mathlib.Core.Path.{refl, ap, ◌∙◌}
use lib.ListN.{length, replicate}
use mir.Facts.{to_z-of_z}
use Rattle.block.proofs.FilledSamples.{begin, step, end}
use Rattle.block.proofs.fill.Goals as goal

pub loop-i-init : goal.loop-i-init
loop-i-init c = begin _ _

pub loop-i-preserved : goal.loop-i-preserved
loop-i-preserved c = step c.loop-i.invariant (omega arith) _ refl

pub returns : goal.returns
returns c = end c.loop-i.invariant (omega arith) ∙ ap (replicate (length c.args.out.now)) (to_z-of_z c.ranges.x)
