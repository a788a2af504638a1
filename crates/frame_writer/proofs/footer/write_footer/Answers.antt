-- `write_footer` meets its contract: the padding, then the CRC-16. Assumes nothing.
use mathlib.Core.Path.{ap, ◌∙◌}
use Rattle.reading.specs.NumbersAsBits.{bits_of}
use Rattle.bit_writer.specs.PenWrites.{inked}
use Rattle.bit_writer.proofs.ConsecutiveWrites.{same_then}
use Rattle.frame_writer.specs.Private.{filled, summed}
use Rattle.frame_writer.proofs.footer.write_footer.Goals as goal

pub returns : goal.returns
unfolding summed filled
returns c =
    let p = c.write_bits in (
      same_then p.ensures.same c.write_bits-2.ensures.same,
      c.write_bits-2.ensures.written ∙ ap (λ z. inked (bits_of 16 z) p.new.self.pen p.new.self.out.now) c.sum_before_pen-sum.ensures ∙ ap summed p.ensures.written,
    )
