-- `unfold` meets its contract: half of a u32 fits an i32, and so does -1 minus that half. Assumes nothing.
use Prim.Native.Nat.{◌/◌, ◌^◌, ◌<◌}
use native.Mathlib.Omega.{arith}
use mathlib.Core.Path.{◌∙◌}
use borrow.Author.Tests.{eq-eqb, ne_eqb}
use mir.Syntax.{w32}
use mir.Facts.{to_z_pos}
use Rattle.rfc9639.specs.Residual.{unfolded}
use Rattle.rfc9639.proofs.MachineIntegers.{minus-fits, minus_is}
use Rattle.signed.proofs.unfold.Goals as goal
use Rattle.signed.proofs.unfold.Goals.{Start}

half : (c : Start) → c.args.n / 2 < 2 ^ 31
half c = omega (arith, c.ranges.n.fits)

pub returns-then-n-eq0 : goal.returns-then-n-eq0
unfolding unfolded
returns-then-n-eq0 c = to_z_pos w32 (half c.before) ∙ rw (eq-eqb _ _ c.if-n-eq0.true)

pub overflow_sub-result : goal.overflow_sub-result
overflow_sub-result c = minus-fits w32 _ (half c.before)

pub returns : goal.returns
unfolding unfolded
returns c = minus_is w32 _ (half c.before) ∙ rw (ne_eqb _ _ c.if-n-eq0.false)
