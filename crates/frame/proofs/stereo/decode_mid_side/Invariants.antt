-- The loop of `decode_mid_side`: after i turns the first i pairs are joined. Assumes nothing.
use Rattle.rfc9639.specs.Stereo.{left_of_mid, right_of_mid}
use Rattle.frame.proofs.StereoPairs.{PairsJoined}
use Rattle.frame.proofs.stereo.decode_mid_side.Given as goal

abbrev pub invariant-loop-i : goal.invariant-loop-i
invariant-loop-i l = PairsJoined left_of_mid right_of_mid l.n l.initial.out l.out l.i
