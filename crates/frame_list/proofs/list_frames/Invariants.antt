-- `frame_list::list_frames` meets its contract: each step takes a byte and keeps the list the same. Assumes nothing.
use Prim.Native.Nat.{◌+◌, ◌-◌, ◌≤◌}
use mathlib.Core.Path.{◌≡◌}
use lib.ListN.{length, drop}
use Rattle.frame_list.specs.Listing.{listed_as}
use Rattle.frame_list.proofs.list_frames.Given as goal

abbrev pub invariant-loop-f : goal.invariant-loop-f
invariant-loop-f l = (l.place ≤ length l.bytes) × (length l.samples ≡ length l.initial.samples)
    × (listed_as l.set (length l.initial.samples) (l.base + l.place) l.totals (drop l.place l.bytes)
    ≡ listed_as l.set (length l.initial.samples) l.base l.initial.totals l.bytes)

abbrev pub decreases-loop-f : goal.decreases-loop-f
decreases-loop-f l = length l.bytes - l.place
