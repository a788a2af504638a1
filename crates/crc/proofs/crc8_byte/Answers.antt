-- `crc::crc8_byte` meets its contract: one more byte is one look-up. Assumes nothing.
use native.Mathlib.Omega.{arith}
use lib.Dec.{lit<}
use Rattle.crc.proofs.ByteTable.{look_up_8}
use Rattle.crc.proofs.crc8_byte.Goals as goal

pub returns : goal.returns
returns c = look_up_8 0x07 _ c.requires c.args.sum c.args.byte (lit< tt) (omega arith) (omega arith)
