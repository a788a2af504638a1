-- `crc::crc16_six` meets its contract: its loop makes one look-up for each byte. Assumes nothing.
use Prim.Native.Nat.{◌-◌}
use native.Mathlib.Omega.{arith}
use lib.Dec.{lit<}
use Rattle.crc.proofs.BytesApart.{one_looked, all_looked}
use Rattle.crc.proofs.crc16_six.Goals as goal

pub loop-k-preserved : goal.loop-k-preserved
loop-k-preserved c =
    let before = c.loop-k in
    one_looked _ _ _ _ _ _ _ before.invariant _ (5 - before.k) (lit< tt) (omega arith) (omega arith) (omega arith) c.crc16_then_zeros-xor.ensures

pub returns : goal.returns
returns c = all_looked _ _ _ _ _ _ _ c.loop-k.invariant (omega arith)
