-- `crc::crc8` meets its contract: the table's 256 entries are checked by computation. Assumes nothing.
use Rattle.crc.proofs.SummedBytes.{Summed}
use Rattle.crc.proofs.crc8.Given as goal

abbrev pub invariant-loop-b : goal.invariant-loop-b
invariant-loop-b l = Summed 8 0x07 l.s l.sum l.b-index
