-- The loop of `decode_right_side`: after i turns the first i pairs are joined. Assumes nothing.
use Rattle.rfc9639.specs.Stereo.{left_of}
use Rattle.frame.proofs.StereoPairs.{second, PairsJoined}
use Rattle.frame.proofs.stereo.decode_right_side.Given as goal

abbrev pub invariant-loop-i : goal.invariant-loop-i
invariant-loop-i l = PairsJoined left_of second l.n l.initial.out l.out l.i
