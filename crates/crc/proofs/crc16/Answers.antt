-- `crc::crc16` meets its contract: the tables' entries are checked by computation. Assumes nothing.
use mathlib.Core.Path.{refl}
use Rattle.rfc9639.specs.CheckSums.{crc_bit, crc_bits}
use Rattle.reading.specs.Bytes.{bits_of_byte}
use Rattle.crc.specs.Private.{sums_from, byte_sums, tables_from, EightTables}
use Rattle.crc.proofs.crc16.Goals as goal

pub crc16_by_tables-requires : goal.crc16_by_tables-requires
unfolding EightTables tables_from byte_sums sums_from bits_of_byte crc_bits crc_bit
crc16_by_tables-requires c = refl
