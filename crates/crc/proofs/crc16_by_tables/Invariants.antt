-- `crc::crc16_by_tables` meets its contract. In the first loop `ahead` is the sum of the last six of the next eight
-- bytes, where there are eight more. Assumes nothing.
use Prim.Native.Nat.{◌+◌, ◌*◌, ◌≤◌}
use mathlib.Core.Path.{◌≡◌}
use lib.ListN.{length, take, drop}
use Rattle.rfc9639.specs.CheckSums.{crc_bits}
use Rattle.reading.specs.Bytes.{bits_of_bytes}
use Rattle.crc.proofs.SummedBytes.{Summed}
use Rattle.crc.proofs.crc16_by_tables.Given as goal

abbrev pub invariant-loop-turn : goal.invariant-loop-turn
invariant-loop-turn l =
    Summed 16 0x8005 l.s l.sum (8 * l.turn)
    × (8 * l.turn + 8 ≤ length l.s → l.ahead ≡ crc_bits 16 0x8005 0 (bits_of_bytes (take 6 (drop (8 * l.turn + 2) l.s))))

abbrev pub invariant-loop-b : goal.invariant-loop-b
invariant-loop-b l = Summed 16 0x8005 l.s l.sum (8 * l.turns + l.b-index)
