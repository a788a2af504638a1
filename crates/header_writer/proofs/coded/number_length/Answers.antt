-- The first byte, and those that follow it. Assumes nothing.
use Prim.Native.Nat.{suc}
use native.Mathlib.Numerals.{add-one}
use mathlib.Core.Path.{ap, sym, ◌∙◌}
use lib.ListN.{length}
use Rattle.rfc9639.proofs.LengthBound.{length-followers}
use Rattle.header_writer.proofs.coded.number_length.Goals as goal

pub returns : goal.returns
returns c = add-one _ ∙ ap suc (sym (length-followers _ _)) ∙ ap length (sym c.form_of-more.ensures.0)
