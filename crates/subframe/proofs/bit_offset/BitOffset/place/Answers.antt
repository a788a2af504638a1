-- `place`: whole bytes of the bits go to the byte. Assumes nothing.
use native.Mathlib.Omega.{arith}
use Rattle.reading.proofs.ByteRuns.{place_is}
use Rattle.subframe.proofs.bit_offset.BitOffset.place.Goals as goal

pub returns : goal.returns
returns c = place_is _ _ _ (omega arith) (omega arith)
