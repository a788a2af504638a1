-- `half` meets its contract. Assumes nothing.
use mathlib.Core.Path.{ap, ◌∙◌}
use mir.Syntax.{w64}
use mir.Facts.{to_z-of_z}
use Rattle.rfc9639.specs.Integers.{shift_down}
use Rattle.subframe_samples.proofs.sample.half.Goals as goal

pub returns : goal.returns
returns c = to_z-of_z {w = w64} (record { sfits = c.shift_down.type_inv }) ∙ c.shift_down.ensures ∙ ap (shift_down 1) (to_z-of_z c.ranges.sum)
