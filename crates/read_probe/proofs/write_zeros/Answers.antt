-- `read_probe::write_zeros` stays within its array, which has 65,536 places of eight bytes. Assumes nothing.
use Rattle.std.proofs.Common.{ℕ, arith, sym}
use lib.ListN.{length-replicate}
use Rattle.read_probe.proofs.write_zeros.Goals as goal

pub slice_bounds-write_first-end : goal.slice_bounds-write_first-end
slice_bounds-write_first-end c = sym (length-replicate {A = ℕ} 524288 0)

pub write_first-requires : goal.write_first-requires
write_first-requires c = (length-replicate {A = ℕ} 524288 0, omega arith)
