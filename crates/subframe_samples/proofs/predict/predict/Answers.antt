-- `predict` meets its contract: a product for each coefficient, each exact. Assumes nothing.
use Prim.Native.Nat.{suc, ◌-◌}
use native.Mathlib.Omega.{arith}
use borrow.Author.Rules.{rules}
use mathlib.Core.Path.{◌≡◌}
use lib.IntN.{pos}
use lib.ListN.{get_or}
use mir.Syntax.{w64}
use mir.Val.{SFits}
use mir.Facts.{to_z-of_z}
use Rattle.subframe_samples.proofs.Predictions.{begin, room, step, end, small_at}
use Rattle.subframe_samples.proofs.predict.predict.Goals as goal

pub loop-k-init : goal.loop-k-init
loop-k-init c = begin _ _ _

pub add_product-sum-requires : goal.add_product-sum-requires
add_product-sum-requires c =
    let f : SFits w64 (get_or c.args.coefficients.now c.loop-k.k (pos 0)) = record { sfits = search rules } in
    (omega arith, room c.loop-k.invariant (omega arith), rw (to_z-of_z f) (small_at _ c.requires.3 _))

pub loop-k-preserved : goal.loop-k-preserved
loop-k-preserved c =
    let f : SFits w64 (get_or c.args.coefficients.now c.loop-k.k (pos 0)) = record { sfits = search rules } in
    let before : c.args.i - 1 - c.loop-k.k ≡ c.args.i - suc c.loop-k.k = omega arith in
    rw (to_z-of_z {w = w64} (record { sfits = c.add_product-sum.type_inv }))
    (step c.loop-k.invariant (omega arith) (omega arith) (omega arith) (to_z-of_z f) before c.add_product-sum.ensures)

pub returns : goal.returns
returns c = end c.loop-k.invariant (omega arith) (omega arith)
