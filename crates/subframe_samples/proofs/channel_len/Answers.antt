-- `channel_len` meets its contract: the start of a channel fits 48 bits. Assumes nothing.
use Prim.Native.Nat.{◌^◌}
use native.Mathlib.Omega.{arith}
use Rattle.number.proofs.ProductSums.{product_at_most}
use Rattle.subframe_samples.proofs.channel_len.Goals as goal

pub overflow_mul-start : goal.overflow_mul-start
overflow_mul-start c = record { fits = omega (arith, product_at_most (2 ^ 32) (2 ^ 16) c.ranges.c.fits c.ranges.size.fits) }
