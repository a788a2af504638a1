-- The range of a channel of a block. Assumes nothing.
use Prim.Native.Nat.{ℕ, suc, ◌+◌, ◌*◌, ◌≤◌, ◌<◌}
use native.Mathlib.Nat.{mul-le-mul_right, suc-mul}
use native.Mathlib.Omega.{arith}
use mathlib.Core.Path.{◌≡◌}
use Rattle.std.specs.Prelude.{Ok}
use Rattle.std.proofs.lemmas.Grind.{common_steps}
use Rattle.block.specs.declared.Block.{Block}
use Rattle.block.specs.BlockAccess.{channel_of}

channel-within : (channels size channel n : ℕ) → channel < channels → channels * size ≤ n → channel * size + size ≤ n
channel-within channels size channel n h k = omega (arith, k, suc-mul channel size, mul-le-mul_right {m = suc channel} {n = channels} size h)

-- a channel that is answered has the block's size, and lies within the samples
pub channel-range : (n : ℕ) (b : Block) (channel : ℕ) {start end : ℕ} → Ok (start, end) ≡ channel_of n b channel → (end ≡ start + b.size) × (end ≤ n)
unfolding channel_of
channel-range n b channel e = grind (arith, common_steps, channel-within b.channels b.size channel n)
