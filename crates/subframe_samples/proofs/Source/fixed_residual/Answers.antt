-- `fixed_residual` meets its contract: past the end the definition has its default. Assumes nothing.
use native.Mathlib.Omega.{arith}
use mathlib.Core.Path.{sym, ◌∙◌}
use mir.Syntax.{w64}
use mir.Val.{SFits}
use mir.Facts.{to_z-of_z}
use Rattle.subframe_samples.specs.Sources.{stored_by}
use Rattle.subframe_samples.proofs.ResidualsByIndex.{fixed_residuals_at, fixed_residuals-past-end}
use Rattle.subframe_samples.proofs.Source.fixed_residual.Goals as goal

pub returns-else-j-saturating_sub : goal.returns-else-j-saturating_sub
returns-else-j-saturating_sub c =
    (sym (fixed_residuals-past-end c.args.order (stored_by c.args.self.now) c.args.j (omega arith)), omega arith)

pub returns-then-j-saturating_sub : goal.returns-then-j-saturating_sub
returns-then-j-saturating_sub c =
    let f : SFits w64 c.residual_at.result = record { sfits = c.residual_at.type_inv } in
    let at = fixed_residuals_at c.args.order (stored_by c.args.self.now) c.args.j (omega arith) in
    rw (to_z-of_z f) (c.residual_at.ensures.0 ∙ sym at, c.residual_at.ensures.1)
