-- The tests of the settings. Assumes nothing.
use Prim.Native.Nat.{ℕ, ◌*◌, ◌^◌, ◌≤◌, ◌<◌}
use native.Mathlib.Nat.{mul-le-mul_right}
use native.Mathlib.Omega.{arith}
use mathlib.Core.Path.{◌≡◌, refl, ◌∙◌}
use mathlib.Core.Bool.{Bool, true, false, ◌&&◌}
use borrow.Author.Tests.{eq-eqb}
use lib.Dec.{eqb}
use Rattle.rfc9639.specs.declared.FrameSetting.{FrameSetting}
use Rattle.rfc9639.specs.HeaderCodes.{largest_block_size, assignment, channel_count}
use Rattle.rfc9639.specs.Write.{allowed}
use Rattle.rfc9639.proofs.AllowedSettings.{allowed_facts}
use Rattle.frame_limits.specs.Private.{in_range}

-- the samples of at most eight channels
pub count_fits : (a b : ℕ) → a ≤ 8 → b ≤ largest_block_size → a * b < 2 ^ 64
count_fits a b h g = omega (arith, mul-le-mul_right b h)

-- one test more, after those before it
pub joined_true : {v a b : Bool} → a ≡ true → v ≡ b → v ≡ (a && b)
joined_true {v} {a} {b} e f = rw e f

pub joined_false : {v a : Bool} (b : Bool) → a ≡ false → v ≡ a → v ≡ (a && b)
joined_false {v} {a} b e f = rw e (f ∙ e)

-- as many samples as the settings ask for
abbrev pub wanted : FrameSetting → ℕ
wanted set = channel_count (assignment set.channels) * set.size

pub allowed_wanted : (set : FrameSetting) → allowed set (wanted set) ≡ in_range set
unfolding allowed in_range
allowed_wanted set = go (in_range set)
  where
    go : (b : Bool) → (b && eqb (wanted set) (wanted set)) ≡ b
    go true = eq-eqb _ _ refl
    go false = refl

pub size_within : (set : FrameSetting) → in_range set ≡ true → set.size ≤ largest_block_size
size_within set e = (allowed_facts set (wanted set) (allowed_wanted set ∙ e)).most
