-- `mul_add`: one more product is exact in 64 bits. Assumes nothing.
use mathlib.Core.Path.{◌≡◌, ap₂, ◌∙◌}
use lib.IntN.{ℤ, nat_abs, ◌+ℤ◌, ◌*ℤ◌}
use mir.Syntax.{w32, w64}
use mir.Val.{SFits, to_z, of_z}
use mir.Facts.{to_z-of_z}
use Rattle.rfc9639.proofs.MachineIntegers.{widened}
use Rattle.number.proofs.ProductSums.{product-fits, mul_add-fits, sample-fits_33}
use Prim.Native.Nat.{◌^◌, ◌<◌}
use Rattle.subframe.proofs.predict.mul_add.Goals as goal

-- the product, which the code passes by its bits
product : {c x : ℤ} → SFits w32 c → SFits w32 x → nat_abs c < 2 ^ 15
    → to_z w64 (of_z w64 (to_z w64 (of_z w64 (to_z w32 (of_z w32 c))) *ℤ to_z w64 (of_z w64 (to_z w32 (of_z w32 x))))) ≡ c *ℤ x
product {c} {x} f g h =
    to_z-of_z {w = w64} (rw (widened f, widened g) (product-fits c x h (sample-fits_33 g))) ∙ ap₂ (λ (a b : ℤ). a *ℤ b) (widened f) (widened g)

pub overflow_add-result : goal.overflow_add-result
overflow_add-result c =
    rw (to_z-of_z c.ranges.sum, product c.ranges.c c.ranges.x c.requires.1)
    (mul_add-fits c.args.c c.args.x c.requires.1 (sample-fits_33 c.ranges.x) c.args.sum c.requires.0)

pub returns : goal.returns
returns c =
    let sum = c.args.sum in
    to_z-of_z {w = w64}
    (rw (to_z-of_z c.ranges.sum, product c.ranges.c c.ranges.x c.requires.1)
    (mul_add-fits c.args.c c.args.x c.requires.1 (sample-fits_33 c.ranges.x) sum c.requires.0))
    ∙ ap₂ (λ (a b : ℤ). a +ℤ b) (to_z-of_z c.ranges.sum) (product c.ranges.c c.ranges.x c.requires.1)
