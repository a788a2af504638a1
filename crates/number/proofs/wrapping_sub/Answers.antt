-- `wrapping_sub` meets its contract: to subtract is to add the opposite. Assumes nothing.
use Prim.Native.Nat.{zero, suc, ◌-◌, ◌^◌}
use native.Mathlib.Omega.{arith}
use mathlib.Core.Path.{refl, ap, ◌∙◌}
use lib.IntN.{ℤ, pos, negsuc, neg_ℤ}
use mir.Syntax.{w32}
use mir.Val.{SFits, of_z}
use Rattle.rfc9639.specs.Integers.{signed, wrapped}
use Rattle.rfc9639.proofs.Widths.{Congruent, low_of_congruent, congruent_add}
use Rattle.rfc9639.proofs.MachineIntegers.{to_z-signed, of_z_congruent}
use Rattle.number.proofs.wrapping_sub.Goals as goal

opposite : (z : ℤ) → SFits w32 z → Congruent 32 (neg_ℤ z) (2 ^ 32 - of_z w32 z)
opposite (pos zero) f = record { modulo = refl }
opposite (pos (suc n)) f = record { modulo = let h = f.sfits in omega arith }
opposite (negsuc n) f = record { modulo = let h = f.sfits in omega arith }

pub returns : goal.returns
unfolding wrapped
returns c =
    to_z-signed w32 _
    ∙ ap (signed 32) (low_of_congruent 32 (congruent_add 32 (of_z_congruent c.ranges.a) (opposite c.args.b c.ranges.b)))
