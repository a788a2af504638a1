-- Sums and differences of two i32: they fit 33 bits, and are exact at 64. Assumes nothing.
use native.Mathlib.Omega.{arith}
use mathlib.Core.Path.{◌≡◌}
use lib.IntN.{ℤ, ◌+ℤ◌, ◌-ℤ◌}
use mir.Syntax.{w32, w64}
use mir.Val.{SFits, to_z, of_z}
use Rattle.rfc9639.proofs.Widths.{Fits, of_sfits, fits_add, fits_sub}
use Rattle.rfc9639.proofs.MachineIntegers.{combined-fits, combined}

-- an i32 as the code widens it
abbrev widened32 : ℤ → ℤ
widened32 z = to_z w64 (of_z w64 (to_z w32 (of_z w32 z)))

module _ {a b : ℤ} (f : SFits w32 a) (g : SFits w32 b) where
  pub sum_fits_33 : Fits 33 (a +ℤ b)
  sum_fits_33 = fits_add {w = 32} (omega arith) (of_sfits f) (of_sfits g)

  pub sum_fits_64 : SFits w64 (widened32 a +ℤ widened32 b)
  sum_fits_64 = combined-fits f g (λ (x y : ℤ). x +ℤ y) sum_fits_33

  pub sum-exact : to_z w64 (of_z w64 (widened32 a +ℤ widened32 b)) ≡ a +ℤ b
  sum-exact = combined f g (λ (x y : ℤ). x +ℤ y) sum_fits_33

  pub difference_fits_33 : Fits 33 (a -ℤ b)
  difference_fits_33 = fits_sub {w = 32} (omega arith) (of_sfits f) (of_sfits g)

  pub difference_fits_64 : SFits w64 (widened32 a -ℤ widened32 b)
  difference_fits_64 = combined-fits f g (λ (x y : ℤ). x -ℤ y) difference_fits_33

  pub difference_exact : to_z w64 (of_z w64 (widened32 a -ℤ widened32 b)) ≡ a -ℤ b
  difference_exact = combined f g (λ (x y : ℤ). x -ℤ y) difference_fits_33
