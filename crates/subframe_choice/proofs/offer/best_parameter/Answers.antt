-- `best_parameter` meets its contract: a turn for each parameter (Offered). Assumes nothing.
use Prim.Native.Nat.{ℕ, ◌+◌, ◌*◌, ◌^◌, ◌≤◌, ◌<◌}
use native.Mathlib.Omega.{arith}
use Rattle.number.proofs.ProductSums.{product_at_most}
use Rattle.subframe_choice.proofs.ParameterChoice.{begin, step, end}
use Rattle.subframe_choice.proofs.offer.best_parameter.Goals as goal

pub loop-k-init : goal.loop-k-init
loop-k-init c = begin _ _ _ _ _

pub overflow_add-offer : goal.overflow_add-offer
overflow_add-offer c = record { fits = omega (arith, c.requires.1 c.loop-k.k) }

-- the bits that end the quotients
ends-few : (count k : ℕ) → count < 2 ^ 16 → k < 15 → count * (k + 1) ≤ 2 ^ 48
ends-few count k h l = product_at_most (2 ^ 16) (2 ^ 32) h (omega arith)

pub overflow_mul-offer : goal.overflow_mul-offer
overflow_mul-offer c = record { fits = omega (arith, ends-few c.args.count c.loop-k.k c.requires.3 (omega arith)) }

pub overflow_add-offer-in-loop-k-2 : goal.overflow_add-offer-in-loop-k-2
overflow_add-offer-in-loop-k-2 c = record { fits = omega (arith, c.requires.1 c.loop-k.k, ends-few c.args.count c.loop-k.k c.requires.3 (omega arith)) }

pub loop-k-preserved : goal.loop-k-preserved
loop-k-preserved c = step c.loop-k.invariant (omega arith) c.better-found.ensures

pub returns : goal.returns
returns c = end c.loop-k.invariant (omega arith)
