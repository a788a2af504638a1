-- `lane_width` meets its contract, lane by lane. Assumes nothing.
use mathlib.Core.Logic.{inl, inr}
use mathlib.Core.Path.{refl}
use Rattle.rfc9639.specs.Write.{lane_width}
use Rattle.frame_writer.proofs.lane.lane_width.Goals as goal

pub returns-in-Channel : goal.returns-in-Channel
unfolding lane_width
returns-in-Channel c = elim c.in-Channel.is [ inl (x, e) ↦ rw e refl | inr e ↦ rw e refl ]

pub returns-in-Side : goal.returns-in-Side
unfolding lane_width
returns-in-Side c = rw c.in-Side.is refl
