-- Left and right from a side channel (RFC 9639 section 4.2), in 32 bits that wrap, as claxon has them. The two channels
-- come one after the other, n samples each.
use Rattle.std.specs.Prelude.{ℕ, List, [], ◌∷◌, ◌++◌, ℤ, pos, ◌+ℤ◌, ◌-ℤ◌, ◌*ℤ◌, take, drop}
use Rattle.rfc9639.specs.declared.ChannelAssignment.{ChannelAssignment}
use Rattle.rfc9639.specs.declared.ChannelAssignment.TheVariants.{Independent, LeftSide, SideRight, MidSide}
use Rattle.rfc9639.specs.Integers.{wrapped, low, shift_down}

unfoldable pub right_of : ℤ → ℤ → ℤ
right_of left side = wrapped 32 (left -ℤ side)

unfoldable pub left_of : ℤ → ℤ → ℤ
left_of side right = wrapped 32 (side +ℤ right)

-- Left plus right, from its half rounded down. The low bit that was lost is the low bit of left minus right too.
unfoldable pub doubled : ℤ → ℤ → ℤ
doubled mid side = wrapped 32 (mid *ℤ pos 2 +ℤ pos (low 1 side))

unfoldable pub left_of_mid : ℤ → ℤ → ℤ
left_of_mid mid side = shift_down 1 (wrapped 32 (doubled mid side +ℤ side))

unfoldable pub right_of_mid : ℤ → ℤ → ℤ
right_of_mid mid side = shift_down 1 (wrapped 32 (doubled mid side -ℤ side))

-- f of the two samples at each index of two channels
unfoldable pub pairwise : (ℤ → ℤ → ℤ) → List ℤ → List ℤ → List ℤ
pairwise f [] ys = []
pairwise f (x ∷ xs) [] = []
pairwise f (x ∷ xs) (y ∷ ys) = f x y ∷ pairwise f xs ys

-- left, then right, from two channels as they are stored
unfoldable pub left_and_right : ChannelAssignment → ℕ → List ℤ → List ℤ
left_and_right (Independent k) n xs = xs
left_and_right LeftSide n xs = take n xs ++ pairwise right_of (take n xs) (drop n xs)
left_and_right SideRight n xs = pairwise left_of (take n xs) (drop n xs) ++ drop n xs
left_and_right MidSide n xs = pairwise left_of_mid (take n xs) (drop n xs) ++ pairwise right_of_mid (take n xs) (drop n xs)
