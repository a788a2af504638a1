-- `write_rices` meets its contract: a turn for each residual (Rows). Assumes nothing.
use native.Mathlib.Omega.{arith}
use mathlib.Core.Path.{◌∙◌}
use borrow.Author.Rules.{rules}
use lib.IntN.{pos}
use mir.Syntax.{w64}
use mir.Facts.{to_z-of_z}
use Rattle.rfc9639.proofs.Lengths.{length-fixed_residuals}
use Rattle.rfc9639.proofs.FrameBits.{bits-rice}
use Rattle.bit_writer.proofs.RowLoops.{begin, step, end}
use Rattle.subframe_writer.proofs.residual.write_rices.Goals as goal

pub loop-j-init : goal.loop-j-init
loop-j-init c = begin _

pub loop-j-preserved : goal.loop-j-preserved
loop-j-preserved c =
    step c.loop-j.invariant (pos 0) (rw length-fixed_residuals (omega arith))
    (to_z-of_z {w = w64} (record { sfits = c.fixed_residual.type_inv }) ∙ c.fixed_residual.ensures.0) (bits-rice _ _)
    c.write_rice.ensures

pub returns : goal.returns
returns c = end c.loop-j.invariant (rw length-fixed_residuals (search rules))
