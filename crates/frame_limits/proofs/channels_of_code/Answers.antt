-- The channels of the assignment that the code stands for. Assumes nothing.
use Rattle.frame_limits.proofs.channels_of_code.Goals as goal

pub returns : goal.returns
returns c = cc
