-- `crc::crc16_six` meets its contract: its loop makes one look-up for each byte. Assumes nothing.
use Rattle.crc.proofs.BytesApart.{Looked}
use Rattle.crc.proofs.crc16_six.Given as goal

abbrev pub invariant-loop-k : goal.invariant-loop-k
invariant-loop-k l = Looked 16 0x8005 l.s l.from 6 l.xor l.k
