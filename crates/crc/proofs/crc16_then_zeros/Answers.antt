-- `crc::crc16_then_zeros` meets its contract: the table of that many zero bytes has the sum. Assumes nothing.
use native.Mathlib.Omega.{arith}
use lib.Dec.{lit<}
use Rattle.crc.proofs.ByteTable.{look_up-zeros}
use Rattle.crc.proofs.crc16_then_zeros.Goals as goal

pub returns : goal.returns
returns c =
    look_up-zeros 16 0x8005 (lit< tt) (omega arith) _ c.requires.0 c.args.zeros c.args.byte (omega arith) (omega arith)
