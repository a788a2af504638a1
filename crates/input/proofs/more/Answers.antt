-- `more`: a count that passes 2 ^ 33 goes back by 2 ^ 32. Assumes nothing.
use native.Mathlib.Omega.{arith}
use Rattle.input.proofs.Callers.{count_stays, count-back}
use Rattle.input.proofs.more.Goals as goal

pub returns-then-t-lt8589934592 : goal.returns-then-t-lt8589934592
returns-then-t-lt8589934592 c = count_stays _ (omega arith)

pub returns-else-t-lt8589934592 : goal.returns-else-t-lt8589934592
returns-else-t-lt8589934592 c = count-back _ (omega arith) (omega arith)
