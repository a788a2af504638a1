-- A pen at the start of the bytes. Assumes nothing.
use mathlib.Core.Path.{refl}
use Rattle.bit_writer.specs.PenWrites.{fresh}
use Rattle.bit_writer.proofs.BitWriter.new.Goals as goal

pub returns : goal.returns
unfolding fresh
returns c = (refl, refl)
