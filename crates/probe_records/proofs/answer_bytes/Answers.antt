-- `answer_bytes` meets its contract: the parts stand one after the other. Assumes nothing.
use Prim.Native.Nat.{ℕ, ◌%◌}
use mathlib.Core.Path.{◌≡◌, refl}
use mir.Val.{bool_byte}
use Rattle.std.proofs.Math.Nat.{div-div-eq-div-mul}
use Rattle.std.specs.Prelude.{Option, Some, None, is_some, unwrap_or}
use Rattle.rfc9639.specs.Stream.{first_known, first_number}
use Rattle.probe_records.proofs.answer_bytes.Goals as goal

known : (first : Option ℕ) → bool_byte (is_some first) ≡ first_known first % 256
known None = refl
known (Some n) = refl

number : (first : Option ℕ) → unwrap_or first 0 ≡ first_number first
number None = refl
number (Some n) = refl

pub returns : goal.returns
returns c =
    rw (c.copy_from_slice.ensures.after, c.copy_from_slice-2.ensures.after, c.copy_from_slice-3.ensures.after) (
    rw (c.to_le_bytes.ensures, c.to_le_bytes-2.ensures, c.to_le_bytes-3.ensures) (
    rw (c.is_some.ensures, c.unwrap_or.ensures, known c.args.first, number c.args.first) (simp div-div-eq-div-mul)))
