-- `sample_from_bytes` meets its contract. Assumes nothing.
use Prim.Native.Nat.{ℕ, ◌^◌, ◌<◌}
use native.Mathlib.Nat.{mod-eq_of_lt}
use native.Mathlib.Omega.{arith}
use mathlib.Core.Path.{◌≡◌, ap, sym, ◌∙◌}
use lib.IntN.{pos}
use mir.Facts.{to_z-of_z}
use mir.Syntax.{w32}
use mir.Val.{to_z}
use Rattle.rfc9639.specs.Integers.{signed, low, wrapped}
use Rattle.rfc9639.proofs.MachineIntegers.{to_z-signed}
use Rattle.probe_records.proofs.sample_from_bytes.Goals as goal

four : (n m : ℕ) → n ≡ m → m < 2 ^ 32 → to_z w32 n ≡ wrapped 32 (pos m)
unfolding wrapped low
four n m e few = ap (to_z w32) e ∙ to_z-signed w32 m ∙ ap (signed 32) (sym (mod-eq_of_lt few))

pub returns : goal.returns
returns c =
    to_z-of_z {w = w32} (record { sfits = c.from_le_bytes.type_inv }) ∙ c.from_le_bytes.ensures
    ∙ four _ _ (omega arith) (omega arith)
