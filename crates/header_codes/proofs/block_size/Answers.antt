-- The sizes of the codes 0 and 2 to 5: the shift loses no bit. Assumes nothing.
use Prim.Native.Nat.{ℕ, ◌*◌, ◌%◌, ◌^◌, ◌≤◌}
use borrow.Author.Tests.{ne_eqb, le-leb}
use native.Mathlib.Nat.{mod-eq_of_lt}
use native.Mathlib.Omega.{arith}
use mathlib.Core.Path.{◌≡◌, ap}
use lib.Pow.{pow_mono}
use Rattle.std.proofs.Common.{◌≢◌}
use Rattle.reading.specs.Readers.{done}
use Rattle.rfc9639.specs.HeaderCodes.{block_size}
use Rattle.header_codes.proofs.block_size.Goals as goal

up_to_5 : (code : ℕ) → code ≢ 1 → code ≤ 5 → done (144 * 2 ^ code % 2 ^ 64) ≡ block_size code
unfolding block_size
up_to_5 code not_1 few =
    rw (ne_eqb _ _ not_1, le-leb _ _ few) (ap done (mod-eq_of_lt (omega (arith, pow_mono {j = 5} few))))

pub returns-in_default : goal.returns-in_default
returns-in_default c = up_to_5 (c.args.code % 16) (omega arith) c.if-low-le5.true
