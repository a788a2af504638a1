-- `dot`: the products from j on are added up, and the sum is small enough (DotSoFar, which speaks of the sum's bits). Assumes nothing.
use Prim.Native.Nat.{ℕ}
use mathlib.Core.Path.{◌≡◌}
use mir.Syntax.{w64}
use mir.Val.{to_z}
use mathlib.Core.List.{reverse}
use Rattle.number.proofs.ProductSums.{DotSoFar}
use Rattle.subframe.proofs.predict.dot.Given as goal

abbrev pub invariant-loop-j : goal.invariant-loop-j
invariant-loop-j g l = (acc : ℕ) × (l.sum ≡ to_z w64 acc) × DotSoFar l.coefficients (reverse l.before) acc l.j
