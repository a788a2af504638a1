-- `decode_rice`: each turn stores one residual (Filling). Assumes nothing.
use native.Mathlib.Omega.{arith}
use mathlib.Core.Path.{ap, sym, ◌∙◌}
use borrow.Author.Rules.{rules}
use Rattle.reading.specs.Places.{got_at}
use Rattle.reading.proofs.ByteRuns.{inside_in, position-place, run_at-out}
use Rattle.subframe.proofs.FilledSlices.{begin, step, stops, end}
use Rattle.subframe.proofs.residual.decode_rice.Goals as goal

pub returns-then-not-is_inside : goal.returns-then-not-is_inside
returns-then-not-is_inside c = sym (run_at-out _ _ _ (sym c.is_inside.ensures ∙ c.if-not-is_inside.true))

pub loop-x-init : goal.loop-x-init
loop-x-init c =
    let a = c.args in let here = inside_in a.s.now a.at (sym c.is_inside.ensures ∙ c.if-not-is_inside.false) in
    rw c.from-p.ensures (rw (position-place a.at here.bit) (begin _ _ here), omega (arith, here.bit))

pub loop-x-preserved : goal.loop-x-preserved
loop-x-preserved c = (step c.loop-x.invariant.0 c.in_ok-x.ensures.0 (search rules) (omega arith), c.in_ok-x.ensures.1)

pub returns-in_err-x : goal.returns-in_err-x
returns-in_err-x c = stops c.loop-x.invariant.0 _ _ c.from_residual.ensures.1 c.in_err-x.ensures.0 (omega arith) _

pub returns : goal.returns
returns c = ap (got_at c.loop-x.out) c.place.ensures ∙ end c.loop-x.invariant.0 (omega arith)
