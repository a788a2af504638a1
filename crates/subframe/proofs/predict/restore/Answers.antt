-- `restore`: the shifted sum plus the residual does not overflow, and its low 32 bits are kept. Assumes nothing.
use native.Mathlib.Omega.{arith}
use mathlib.Core.Path.{◌≡◌, ap, ap₂, ◌∙◌}
use lib.IntN.{ℤ, nat_abs, ◌+ℤ◌}
use mir.Syntax.{w32, w64}
use mir.Val.{SFits, to_z, of_z}
use mir.Facts.{to_z-of_z}
use Rattle.rfc9639.specs.Integers.{wrapped, shift_down}
use Rattle.rfc9639.proofs.Widths.{of_sfits}
use Rattle.rfc9639.proofs.MachineIntegers.{widened}
use Rattle.number.proofs.ProductSums.{abs_shift_down, abs_of_fits, add_fits}
use Prim.Native.Nat.{ℕ, ◌^◌, ◌<◌}
use Rattle.subframe.proofs.predict.restore.Goals as goal

-- the shifted sum, which the code passes by its bits
down : {sum z : ℤ} (shift : ℕ) → SFits w64 sum → SFits w64 z → z ≡ shift_down shift (to_z w64 (of_z w64 sum)) → to_z w64 (of_z w64 z) ≡ shift_down shift sum
down shift f g e = to_z-of_z g ∙ e ∙ ap (shift_down shift) (to_z-of_z f)

sum-fits : (shift : ℕ) (sum residual : ℤ) → nat_abs sum < 2 ^ 62 → SFits w32 residual → SFits w64 (shift_down shift sum +ℤ residual)
sum-fits shift sum residual h f =
    add_fits (shift_down shift sum) residual (omega (arith, abs_shift_down shift sum, h)) (omega (arith, abs_of_fits (of_sfits f)))

pub overflow_add-shift_down : goal.overflow_add-shift_down
overflow_add-shift_down c =
    let a = c.args in let d = c.shift_down in
    rw (down a.shift c.ranges.sum (record { sfits = d.type_inv }) d.ensures, widened c.ranges.residual) (sum-fits a.shift a.sum a.residual c.requires c.ranges.residual)

pub returns : goal.returns
returns c =
    let a = c.args in let d = c.shift_down in
    let e = down a.shift c.ranges.sum (record { sfits = d.type_inv }) d.ensures in
    to_z-of_z {w = w32} (record { sfits = c.low32.type_inv }) ∙ c.low32.ensures
    ∙ ap (wrapped 32)
    (to_z-of_z {w = w64} (rw (e, widened c.ranges.residual) (sum-fits a.shift a.sum a.residual c.requires c.ranges.residual))
    ∙ ap₂ (λ (x y : ℤ). x +ℤ y) e (widened c.ranges.residual))
