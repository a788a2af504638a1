-- `crc::crc16_eight` meets its contract: two look-ups are made, and `ahead` has the others. Assumes nothing.
use native.Mathlib.Omega.{arith}
use lib.Dec.{lit<}
use Rattle.crc.proofs.BytesApart.{two-apart}
use Rattle.crc.proofs.crc16_eight.Goals as goal

pub returns : goal.returns
returns c =
    let args = c.args in
    let summed = c.requires.ahead_value in
    cc (two-apart 0x8005 (lit< tt) args.sum args.s.now args.from 6 (omega arith) (omega arith))
