-- `folded`: the quotient and the remainder as one number, which fits 64 bits. Assumes nothing.
use native.Mathlib.Omega.{arith}
use Rattle.rfc9639.specs.Residual.{folded}
use Rattle.subframe.proofs.SampleReaders.{folded_fits}
use Rattle.subframe.proofs.residual.folded.Goals as goal

pub returns : goal.returns
unfolding folded
returns c = let f = folded_fits _ _ _ c.requires.0 c.requires.1 c.requires.2 in omega (arith, f)
