-- `shift_right` meets its contract: a u64 is below 2 ^ k for k of 64 or more. Assumes nothing.
use Prim.Native.Nat.{ℕ, ◌/◌, ◌^◌, ◌<◌}
use native.Mathlib.Nat.{div-eq_of_lt, lt_of_lt_of_le}
use native.Mathlib.Omega.{arith}
use mathlib.Core.Path.{◌≡◌, sym, ◌∙◌}
use lib.Pow.{pow_mono}
use Rattle.std.specs.Prelude.{Option, Some, None, SomeIff}
use Rattle.std.specs.Option.{unwrap_or}
use Rattle.number.proofs.shift_right.Goals as goal

shifted_or_none : (v k : ℕ) → v < 2 ^ 64 → (o : Option ℕ) → SomeIff o (k < 64) (v / 2 ^ k) → unwrap_or o 0 ≡ v / 2 ^ k
shifted_or_none v k l None h = sym (div-eq_of_lt (lt_of_lt_of_le l (pow_mono {i = 64} {j = k} (omega (arith, h)))))
shifted_or_none v k l (Some x) h = h.1

pub returns : goal.returns
returns c = c.unwrap_or.ensures ∙ shifted_or_none c.args.v c.args.k c.ranges.v.fits c.checked_shr.result c.checked_shr.ensures
