-- `crc::crc8` meets its contract: the table's 256 entries are checked by computation. Assumes nothing.
use native.Mathlib.Omega.{arith}
use mathlib.Core.Path.{refl}
use Rattle.rfc9639.specs.CheckSums.{crc_bit, crc_bits, crc8}
use Rattle.reading.specs.Bytes.{bits_of_byte}
use Rattle.crc.specs.Private.{sums_from, byte_sums}
use Rattle.crc.proofs.SummedBytes.{begin, step, end}
use Rattle.crc.proofs.crc8.Goals as goal

pub loop-b-init : goal.loop-b-init
loop-b-init c = begin _ _ _

pub crc8_byte-sum-requires : goal.crc8_byte-sum-requires
unfolding byte_sums sums_from bits_of_byte crc_bits crc_bit
crc8_byte-sum-requires c = refl

pub loop-b-preserved : goal.loop-b-preserved
loop-b-preserved c = step _ _ _ _ _ c.loop-b.invariant _ _ refl (omega arith) c.crc8_byte-sum.ensures

pub returns : goal.returns
unfolding crc8
returns c = end _ _ _ _ _ c.loop-b.invariant (omega arith)
