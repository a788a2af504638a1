-- The stored bits of a rate, as `input::read_bits` reads them; no bits are 0, where the place is. Assumes nothing.
use mathlib.Core.Path.{sym, ap}
use Rattle.reading.proofs.ByteRuns.{inside_in}
use Rattle.input.specs.Answers.{low64, map_at}
use Rattle.header.proofs.HeaderParts.{bits_none}
use Rattle.header.proofs.read_stored.Goals as goal

pub returns-then-n-eq0 : goal.returns-then-n-eq0
unfolding low64 map_at
returns-then-n-eq0 c = rw c.if-n-eq0.true (ap low64 (sym (bits_none (inside_in c.args.s.now c.args.at c.requires))))
