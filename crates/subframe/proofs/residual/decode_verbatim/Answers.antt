-- `decode_verbatim`: each turn stores one sample (Filling). Assumes nothing.
use native.Mathlib.Omega.{arith}
use mathlib.Core.Path.{sym, ◌∙◌}
use borrow.Author.Rules.{rules}
use Rattle.reading.proofs.ByteRuns.{inside_in, run_at-out}
use Rattle.subframe.proofs.FilledSlices.{begin, step, stops, end}
use Rattle.subframe.proofs.residual.decode_verbatim.Goals as goal

pub returns-then-not-is_inside : goal.returns-then-not-is_inside
returns-then-not-is_inside c = sym (run_at-out _ _ _ (sym c.is_inside.ensures ∙ c.if-not-is_inside.true))

pub loop-x-init : goal.loop-x-init
loop-x-init c = begin _ _ (inside_in _ _ (sym c.is_inside.ensures ∙ c.if-not-is_inside.false))

pub loop-x-preserved : goal.loop-x-preserved
loop-x-preserved c = step c.loop-x.invariant c.in_ok-x.ensures (search rules) (omega arith)

pub returns-in_err-x : goal.returns-in_err-x
returns-in_err-x c = stops c.loop-x.invariant _ _ c.from_residual.ensures.1 c.in_err-x.ensures (omega arith) _

pub returns : goal.returns
returns c = end c.loop-x.invariant (omega arith)
