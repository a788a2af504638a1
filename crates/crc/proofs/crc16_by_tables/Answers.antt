-- `crc::crc16_by_tables` meets its contract. In the first loop `ahead` is the sum of the last six of the next eight
-- bytes, where there are eight more. Assumes nothing.
use Prim.Native.Nat.{◌+◌, ◌*◌}
use native.Mathlib.Omega.{arith}
use mathlib.Core.Path.{◌≡◌, ◌∙◌}
use Rattle.rfc9639.specs.CheckSums.{crc16}
use Rattle.crc.proofs.SummedBytes.{begin, step, steps, end, rest_at}
use Rattle.crc.proofs.crc16_by_tables.Goals as goal
use Rattle.crc.proofs.crc16_by_tables.Goals.{then-s-ge8, else-s-ge8}

pub loop-turn-init : goal.loop-turn-init
loop-turn-init c = (begin _ _ _, λ h. elim c.if-s-ge8.branch [ then-s-ge8 w ↦ w.ahead-is ∙ w.crc16_six-ahead.ensures | else-s-ge8 w ↦ absurd (omega arith) ])

pub loop-turn-preserved : goal.loop-turn-preserved
loop-turn-preserved c =
    let i = c.loop-turn.turn in
    let place : 8 * (i + 1) + 2 ≡ 8 * i + 10 = omega arith in (
      steps _ _ _ _ _ c.loop-turn.invariant.0 _ 8 _ (omega arith) (omega arith) c.crc16_eight-sum.ensures,
      λ h. rw place c.crc16_six-ahead-in-loop-turn.ensures,
    )

pub loop-b-preserved : goal.loop-b-preserved
loop-b-preserved c = step _ _ _ _ _ c.loop-b.invariant _ _ (omega arith) (omega arith) (rw (rest_at c.args.s.now (8 * c.saturating_sub-turns.result) c.loop-b.b-index (omega arith)) at c.crc16_byte-sum.ensures)

pub returns : goal.returns
unfolding crc16
returns c = end _ _ _ _ _ c.loop-b.invariant (omega arith)
