-- `fixed_sum`: each step is exact at 64 bits (Exact), and the sum is that of the products. Assumes nothing.
use Prim.Native.Nat.{◌-◌}
use native.Mathlib.Omega.{arith}
use borrow.Author.Rules.{rules}
use lib.ListN.{length}
use Rattle.subframe.proofs.FixedSums.{exact_at, exact_multiple, exact-sum, exact_difference, exact-answer, fixed_sum_1, fixed_sum_2, fixed_sum_3}
use Rattle.subframe.proofs.predict.fixed_sum.Goals as goal

pub returns-then-order-eq1 : goal.returns-then-order-eq1
returns-then-order-eq1 c =
    let l = c.args.before.now in
    exact-answer (exact_at l (length l - 1) (search rules)) (fixed_sum_1 l c.requires.2 c.if-order-eq1.true) (omega arith)

pub returns-then-order-eq2 : goal.returns-then-order-eq2
returns-then-order-eq2 c =
    let l = c.args.before.now in let a = exact_at l (length l - 1) (search rules) in let b = exact_at l (length l - 1 - 1) (search rules) in
    exact-answer (exact_difference (exact_multiple a 2 (omega arith)) b (omega arith)) (fixed_sum_2 l c.requires.2 c.if-order-eq2.true) (omega arith)

pub returns : goal.returns
returns c =
    let l = c.args.before.now in let a = exact_at l (length l - 1) (search rules) in let b = exact_at l (length l - 1 - 1) (search rules) in let d = exact_at l (length l - 1 - 2) (search rules) in
    exact-answer (exact-sum (exact_multiple (exact_difference a b (omega arith)) 3 (omega arith)) d (omega arith))
    (fixed_sum_3 l c.requires.2 (omega arith)) (omega arith)
