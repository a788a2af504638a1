-- `plain_bits` meets its contract: fewer than 2 ^ 16 samples of a u32's bits each. Assumes nothing.
use Prim.Native.Nat.{ℕ, ◌*◌, ◌^◌, ◌≤◌, ◌<◌}
use native.Mathlib.Omega.{arith}
use Rattle.number.proofs.ProductSums.{product_at_most}
use Rattle.subframe_choice.proofs.plain.plain_bits.Goals as goal

few : (count width : ℕ) → count < 2 ^ 16 → width < 2 ^ 32 → count * width ≤ 2 ^ 48
few count width h l = product_at_most (2 ^ 16) (2 ^ 32) h l

pub overflow_mul-result : goal.overflow_mul-result
overflow_mul-result c = record { fits = omega (arith, few _ _ c.requires c.ranges.width.fits) }

pub overflow_add-result : goal.overflow_add-result
overflow_add-result c = record { fits = omega (arith, few _ _ c.requires c.ranges.width.fits) }
