-- `sign_extend` meets its contract, by the width. Assumes nothing.
use Prim.Native.Nat.{◌-◌}
use native.Mathlib.Omega.{arith}
use mathlib.Core.Path.{sym, ap, ◌∙◌}
use mir.Syntax.{w64}
use mir.Facts.{to_z-of_z}
use Rattle.rfc9639.specs.Integers.{shift_down}
use Rattle.signed.specs.Extend.{sign_extend}
use Rattle.rfc9639.proofs.MachineIntegers.{to_z-signed, shifted}
use Rattle.signed.proofs.SignExtension.{extend-zero_width, extend-all, extend-shifts}
use Rattle.signed.proofs.sign_extend.Goals as goal

pub returns-then-width-eq0 : goal.returns-then-width-eq0
returns-then-width-eq0 c = sym (ap (λ w. sign_extend w c.args.v) c.if-width-eq0.true ∙ extend-zero_width c.args.v)

pub returns-then-width-ge64 : goal.returns-then-width-ge64
returns-then-width-ge64 c =
    let s = c in
    to_z-of_z {w = w64} (record { sfits = c.cast_signed.type_inv }) ∙ c.cast_signed.ensures ∙ to_z-signed w64 s.args.v ∙ sym (extend-all s.args.width s.args.v c.if-width-ge64.true s.ranges.v.fits)

pub returns : goal.returns
returns c =
    let a = c.args in
    let k = 64 - a.width in
    shifted {w = w64} (record { sfits = c.cast_signed-2.type_inv }) k ∙ ap (shift_down k) (c.cast_signed-2.ensures ∙ to_z-signed w64 _) ∙ extend-shifts a.width k a.v (omega arith) (omega arith)
