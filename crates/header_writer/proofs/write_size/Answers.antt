-- The size less one, in as many bits as its code asks for. Assumes nothing.
use Rattle.header_writer.proofs.write_size.Goals as goal

pub returns : goal.returns
returns c = rw (c.size_width.ensures, ← c.saturating_sub.ensures) c.write_bits.ensures
