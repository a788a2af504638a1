-- `crc::crc16_byte` meets its contract: one more byte is one look-up. Assumes nothing.
use native.Mathlib.Omega.{arith}
use lib.Dec.{lit<}
use Rattle.crc.proofs.ByteTable.{look_up-first}
use Rattle.crc.proofs.crc16_byte.Goals as goal

pub returns : goal.returns
returns c = look_up-first 16 0x8005 (lit< tt) (omega arith) _ c.requires c.args.sum c.args.byte (omega arith) (omega arith)
