-- `shift_up` meets its contract: a shift past the width leaves nothing. Assumes nothing.
use Prim.Native.Nat.{ℕ, ◌*◌, ◌%◌, ◌^◌, ◌<◌}
use native.Mathlib.Omega.{arith}
use mathlib.Core.Path.{◌≡◌, ap, sym, ◌∙◌}
use lib.IntN.{ℤ, pos}
use mir.Syntax.{w32}
use mir.Val.{SFits, to_z, of_z}
use mir.Facts.{to_z-of_z}
use Rattle.std.specs.Prelude.{Option, Some, None, SomeIff}
use Rattle.std.specs.Option.{unwrap_or}
use Rattle.rfc9639.specs.Integers.{signed, wrapped, shift_up}
use Rattle.rfc9639.proofs.Widths.{low_of_congruent, congruent_mul, shift_up-out, shift_up-fits, to_sfits}
use Rattle.rfc9639.proofs.MachineIntegers.{to_z-signed, of_z_congruent}
use Rattle.number.proofs.shift_up.Goals as goal

shifted_or_none : {x : ℤ} → SFits w32 x → (k : ℕ) (o : Option ℤ) → SomeIff o (k < 32) (to_z w32 ((of_z w32 x * 2 ^ k) % 2 ^ 32)) → unwrap_or o (pos 0) ≡ shift_up k x
unfolding shift_up wrapped
shifted_or_none {x} f k None h = sym (shift_up-out k x (omega (arith, h)))
shifted_or_none {x} f k (Some z) h = h.1 ∙ to_z-signed w32 _ ∙ ap (signed 32) (low_of_congruent 32 (congruent_mul 32 (of_z_congruent f) (2 ^ k)))

pub returns : goal.returns
returns c =
    let e = c.unwrap_or.ensures ∙ shifted_or_none c.ranges.x c.args.k c.checked_shl.result (rw (to_z-of_z c.ranges.x) at c.checked_shl.ensures) in
    rw e (to_z-of_z {w = w32} (to_sfits (shift_up-fits c.args.k c.args.x)))
