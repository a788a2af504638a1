-- Sample range: which samples fit the bits. Assumes nothing.
use Prim.Native.Nat.{ℕ, ◌+◌, ◌-◌, ◌*◌, ◌^◌, ◌≤◌, ◌<◌}
use native.Mathlib.Omega.{arith}
use mathlib.Core.Path.{◌≡◌, refl, ap, sym, ◌∙◌}
use mathlib.Core.Bool.{Bool, true, false, ◌&&◌}
use mathlib.Core.List.{List, [], ◌∷◌}
use Rattle.std.specs.List.{list_all}
use borrow.Author.Tests.{ltb-true, ltb-false, lt-ltb, le-ltb}
use lib.Dec.{ltb}
use lib.IntN.{ℤ, pos, negsuc}
use Rattle.rfc9639.specs.SubframeCoding.{fold}
use Rattle.rfc9639.specs.Write.{fits, all_fit}
use Rattle.rfc9639.proofs.Widths.{pow_double}

-- ---- a sample fits w bits where its folded form is below 2 ^ w

same_test : (a b c d : ℕ) → (a < b → c < d) → (b ≤ a → d ≤ c) → ltb a b ≡ ltb c d
same_test a b c d f g = go (ltb a b) refl
  where
    go : (t : Bool) → ltb a b ≡ t → ltb a b ≡ ltb c d
    go true e = e ∙ sym (lt-ltb c d (f (ltb-true a b e)))
    go false e = e ∙ sym (le-ltb c d (g (ltb-false a b e)))

pub fits-folded : (w : ℕ) → 1 ≤ w → (x : ℤ) → fits w x ≡ ltb (fold x) (2 ^ w)
unfolding fits fold
fits-folded w h (pos n) = same_test n (2 ^ (w - 1)) (n * 2) (2 ^ w) (λ l. omega (arith, pow_double w h)) (λ l. omega (arith, pow_double w h))
fits-folded w h (negsuc n) = same_test n (2 ^ (w - 1)) (n * 2 + 1) (2 ^ w) (λ l. omega (arith, pow_double w h)) (λ l. omega (arith, pow_double w h))

-- ---- all samples, in the library's word

pub all-fits : (w : ℕ) (xs : List ℤ) → list_all (fits w) xs ≡ all_fit w xs
unfolding all_fit
all-fits w [] = refl
all-fits w (x ∷ xs) = ap (λ t. fits w x && t) (all-fits w xs)
