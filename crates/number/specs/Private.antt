-- Lists of small numbers: what makes a sum of products exact. Only contracts of private functions name it, so nobody
-- has to believe it.
use Rattle.std.specs.Prelude.{ℕ, ◌<◌, List, [], ◌∷◌, ℤ, nat_abs}

-- each number's size is below b
abbrev pub Small : ℕ → List ℤ → Type 0
Small b [] = Unit {0}
Small b (z ∷ zs) = (nat_abs z < b) × Small b zs
