-- `write_plain` meets its contract: a turn for each sample (Rows). Assumes nothing.
use native.Mathlib.Omega.{arith}
use mathlib.Core.Path.{ap, sym, ◌∙◌}
use borrow.Author.Rules.{rules}
use lib.IntN.{pos}
use lib.ListN.{length-take}
use lib.Seq.{get_or-take}
use mir.Syntax.{w64}
use mir.Facts.{to_z-of_z}
use Rattle.reading.specs.NumbersAsBits.{bits_of}
use Rattle.reading.proofs.NumbersAsBits.{binary-bits_of}
use Rattle.rfc9639.specs.SubframeCoding.{plain}
use Rattle.subframe_samples.specs.Sources.{stored_by}
use Rattle.bit_writer.proofs.ConsecutiveWrites.{appends_as}
use Rattle.bit_writer.proofs.RowLoops.{begin, step, end}
use Rattle.signed.proofs.SignExtension.{low_bits-low}
use Rattle.subframe_writer.proofs.write_plain.Goals as goal

pub loop-i-init : goal.loop-i-init
loop-i-init c = begin _

pub loop-i-preserved : goal.loop-i-preserved
loop-i-preserved c =
    step c.loop-i.invariant (pos 0) (rw length-take (omega arith))
    (to_z-of_z {w = w64} (record { sfits = c.sample.type_inv }) ∙ c.sample.ensures
    ∙ sym (get_or-take c.args.most (stored_by c.args.source.now) c.loop-i.i (pos 0) (omega arith)))
    (binary-bits_of c.args.width _)
    (appends_as (ap (bits_of c.args.width) (c.low_bits.ensures ∙ low_bits-low c.args.width _ c.requires)) c.write_bits.ensures)

pub returns : goal.returns
unfolding plain
returns c = end c.loop-i.invariant (rw length-take (search rules))
