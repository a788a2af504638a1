-- `is_uniform` meets its contract: a turn for each sample after the first (Alike). Assumes nothing.
use native.Mathlib.Omega.{arith}
use mathlib.Core.Path.{ap, sym, ◌∙◌}
use mir.Syntax.{w64}
use mir.Val.{of_z}
use Rattle.subframe_choice.proofs.EqualSamples.{equal_by_bits, begin, step, one_differs, end}
use Rattle.subframe_choice.proofs.plain.is_uniform.Goals as goal

pub loop-i-init : goal.loop-i-init
loop-i-init c = begin _

pub returns-then-sample-first : goal.returns-then-sample-first
returns-then-sample-first c =
    one_differs c.loop-i.invariant (omega arith)
    (λ e. c.if-sample-first.true (ap (of_z w64) (c.sample.ensures ∙ e ∙ sym c.sample-first.ensures)))

pub loop-i-preserved : goal.loop-i-preserved
loop-i-preserved c =
    step c.loop-i.invariant (omega arith)
    (sym c.sample.ensures
    ∙ equal_by_bits (record { sfits = c.sample.type_inv }) (record { sfits = c.sample-first.type_inv }) c.if-sample-first.false
    ∙ c.sample-first.ensures)

pub returns : goal.returns
returns c = end c.loop-i.invariant (omega arith)
