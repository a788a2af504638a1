-- `frame_list::window::fill` meets its contract, and ends: a read brings a byte or uses up a try. Assumes nothing.
use Prim.Native.Nat.{◌+◌, ◌-◌}
use Rattle.frame_list.proofs.FillInvariant.{FillInvariant}
use Rattle.frame_list.proofs.window.fill_to.Given as goal

abbrev pub invariant-loop-held : goal.invariant-loop-held
invariant-loop-held l = FillInvariant l.initial.window l.before l.window l.held

abbrev pub decreases-loop-held : goal.decreases-loop-held
decreases-loop-held l = (l.wanted - l.held) + l.tries
