-- The loop of `decode_left_side`: after i turns the first i pairs are joined. Assumes nothing.
use Rattle.rfc9639.specs.Stereo.{right_of}
use Rattle.frame.proofs.StereoPairs.{first, PairsJoined}
use Rattle.frame.proofs.stereo.decode_left_side.Given as goal

abbrev pub invariant-loop-i : goal.invariant-loop-i
invariant-loop-i l = PairsJoined first right_of l.n l.initial.out l.out l.i
