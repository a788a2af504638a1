-- `shift_all`: each turn shifts one number (Mapped). Assumes nothing.
use Prim.Native.Nat.{◌+◌}
use native.Mathlib.Omega.{arith}
use mathlib.Core.Path.{sym, subst}
use mathlib.Core.List.{List}
use borrow.Author.Rules.{rules}
use lib.IntN.{ℤ}
use Rattle.subframe.proofs.DecodedSubframes.{Mapped, turn, kept, end, shift_none}
use Rattle.rfc9639.specs.Integers.{shift_up}
use Rattle.subframe.proofs.shift_all.Goals as goal
use Rattle.subframe.proofs.shift_all.Goals.{then-wasted-ne0, else-wasted-ne0}

pub loop-x-preserved : goal.loop-x-preserved
loop-x-preserved c =
    let l = c.loop-x in
    let a = c.args in
    elim c.if-wasted-ne0.branch [
      | then-wasted-ne0 w ↦ subst (λ (x : List ℤ). Mapped (shift_up a.wasted) a.out.now x (l.x-index + 1)) (sym w.out-is) (turn l.invariant _ (omega arith) w.shift_up.ensures (search rules) (record { sfits = w.shift_up.type_inv }))
      | else-wasted-ne0 w ↦ subst (λ (x : List ℤ). Mapped (shift_up a.wasted) a.out.now x (l.x-index + 1)) (sym w.out-is) (kept l.invariant (omega arith) (shift_none (omega (arith, w.if-wasted-ne0.false)) (search rules)))
    ]

pub returns : goal.returns
returns c = end c.loop-x.invariant (omega arith)
