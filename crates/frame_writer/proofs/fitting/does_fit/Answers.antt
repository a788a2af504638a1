-- `does_fit` meets its contract: a sample fits where its folded form is below the power of two. Assumes nothing.
use native.Mathlib.Omega.{arith}
use mathlib.Core.Path.{sym, ◌∙◌, ap, ap₂}
use lib.Dec.{ltb}
use Rattle.reading.proofs.Bits.{one_shifted}
use Rattle.rfc9639.specs.SubframeCoding.{fold}
use Rattle.rfc9639.proofs.MachineIntegers.{widen_fits, widened}
use Rattle.frame_writer.proofs.SampleFit.{fits-folded}
use Rattle.frame_writer.proofs.fitting.does_fit.Goals as goal

pub overflow_cast-x : goal.overflow_cast-x
overflow_cast-x c = widen_fits c.ranges.x

pub returns : goal.returns
returns c = ap₂ ltb (c.fold.ensures ∙ ap fold (widened c.ranges.x)) (one_shifted _ (omega (arith, c.requires.1))) ∙ sym (fits-folded _ c.requires.0 _)
