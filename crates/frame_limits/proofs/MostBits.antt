-- The most bits that the subframes take, as one product, and an upper bound of it. Assumes nothing.
use Prim.Native.Nat.{ℕ, zero, suc, ◌+◌, ◌*◌, ◌≤◌, ◌<◌}
use native.Mathlib.Nat.{mul-le-mul_right, mul-le-mul_left, mul-add, suc-mul}
use native.Mathlib.Omega.{arith}
use mathlib.Core.Path.{◌≡◌, sym}
use mathlib.Core.Bool.{Bool, true, false, cond}
use mathlib.Core.List.{map}
use borrow.Author.Tests.{lt-ltb, le-ltb}
use lib.Dec.{eqb}
use Rattle.rfc9639.specs.declared.ChannelAssignment.TheVariants.{Independent, LeftSide, SideRight, MidSide}
use Rattle.rfc9639.specs.HeaderCodes.{largest_block_size, assignment, channel_count}
use Rattle.rfc9639.specs.SubframeCoding.{numbers_from}
use Rattle.rfc9639.specs.Write.{lane_of, lanes, lane_width, most_bits}
use Rattle.rfc9639.proofs.Lists.{channels_between}

-- the samples of one channel, and all channels with their headers
pub each_fits : (b n : ℕ) → b ≤ 24 → n ≤ largest_block_size → n * b ≤ 1572840
each_fits b n h k = omega (arith, mul-le-mul_right b k, mul-le-mul_left largest_block_size h)

pub all-fits : (code each : ℕ) → each ≤ 1572848 → channel_count (assignment code) * each ≤ 12582784
all-fits code each h = omega (arith, mul-le-mul_right each (channels_between code).1)

module _ (b n : ℕ) where
  -- m independent channels, from some channel on
  independent_bits : (k from m : ℕ) → most_bits b n (map (lane_of (Independent k)) (numbers_from from m)) ≡ m * (8 + n * b)
  unfolding most_bits lane_of lane_width numbers_from
  independent_bits k from zero = omega arith
  independent_bits k from (suc m) = omega (arith, independent_bits k (suc from) m, suc-mul m (8 + n * b))

  pub most_independent : (code : ℕ) → code < 8 → channel_count (assignment code) * (8 + n * b) ≡ most_bits b n (lanes (assignment code))
  unfolding assignment channel_count lanes
  most_independent code h = rw (lt-ltb _ _ h) (sym (independent_bits (code + 1) 0 (code + 1)))

  -- a side channel and one other
  pub most-pair : (code : ℕ) → 8 ≤ code → channel_count (assignment code) * (8 + n * b) + n ≡ most_bits b n (lanes (assignment code))
  unfolding assignment channel_count lanes most_bits lane_of lane_width numbers_from
  most-pair code h = rw (le-ltb _ _ h) (go (eqb code 8) (eqb code 9))
    where
      go : (p q : Bool) → channel_count (cond p LeftSide (cond q SideRight MidSide)) * (8 + n * b) + n ≡ most_bits b n (lanes (cond p LeftSide (cond q SideRight MidSide)))
      go true q = omega (arith, mul-add n b 1)
      go false true = omega (arith, mul-add n b 1)
      go false false = omega (arith, mul-add n b 1)
