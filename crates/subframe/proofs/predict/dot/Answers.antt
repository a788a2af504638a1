-- `dot`: the products from j on are added up, and the sum is small enough (DotSoFar). Assumes nothing.
use native.Mathlib.Omega.{arith}
use mathlib.Core.Path.{refl}
use borrow.Author.Rules.{rules}
use Rattle.number.proofs.ProductSums.{begin, room, end}
use Rattle.subframe.proofs.PredictionSums.{mul_add-asks, turn}
use mir.Syntax.{w64}
use mir.Val.{of_z}
use Rattle.subframe.proofs.predict.dot.Goals as goal

pub loop-j-init : goal.loop-j-init
loop-j-init g c = (0, refl, begin _ _ _ (search rules))

pub mul_add-sum-requires : goal.mul_add-sum-requires
mul_add-sum-requires g c =
    let inv = c.loop-j.invariant in let a = c.args in
    rw inv.1 (mul_add-asks a.coefficients.now a.before.now inv.2 c.requires _ (omega arith) (search rules))

pub loop-j-preserved : goal.loop-j-preserved
loop-j-preserved g c =
    let inv = c.loop-j.invariant in let a = c.args in (
      of_z w64 c.mul_add-sum.result,
      refl,
      turn a.coefficients.now a.before.now inv.2 c.requires _ (omega arith) (search rules) _ refl (search rules) _ (rw inv.1 at c.mul_add-sum.ensures)
          (record { sfits = c.mul_add-sum.type_inv }),
    )

pub returns : goal.returns
returns g c =
    let inv = c.loop-j.invariant in let few = c.requires.0 in rw inv.1 (end inv.2 few (omega arith), room inv.2 few)
