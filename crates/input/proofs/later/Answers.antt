-- `later`: the place of the position m bits later. Assumes nothing.
use native.Mathlib.Omega.{arith}
use Rattle.reading.proofs.ByteRuns.{place_is}
use Rattle.input.proofs.later.Goals as goal

pub returns : goal.returns
returns c = place_is _ _ _ (omega arith) (omega arith)
