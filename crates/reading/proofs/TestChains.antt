-- Chains of tests, `if .. else if ..`, as the definition writes its tables. Assumes nothing.
use Prim.Native.Nat.{ℕ, zero, suc}
use native.Mathlib.Omega.{arith}
use mathlib.Core.Path.{◌≡◌, refl}
use mathlib.Core.Bool.{Bool, true, false, cond}
use mathlib.Core.List.{List, [], ◌∷◌}
use borrow.Author.Tests.{lt-ltb, le-ltb, le-leb, lt-leb, eq-eqb, ne_eqb, ltb-true, ltb-false, leb-true, leb-false, eqb-true, eqb-false}

-- arithmetic that uses and proves tests
pub ruleset tested = (arith, lt-ltb, le-ltb, le-leb, lt-leb, eq-eqb, ne_eqb, ltb-true, ltb-false, leb-true, leb-false, eqb-true, eqb-false)

-- what holds of both branches holds of the branch that is taken
pub by_test : {A : Type 0} (P : A → Type 0) (b : Bool) (x y : A) → (b ≡ true → P x) → (b ≡ false → P y) → P (cond b x y)
by_test P true x y h g = h refl
by_test P false x y h g = g refl

-- the value of the first test that holds, else z
abbrev pub ladder : {A : Type 0} → List (Bool × A) → A → A
ladder [] z = z
ladder (t ∷ ts) z = cond t.0 t.1 (ladder ts z)

-- test k is the first that holds
abbrev pub Taken : {A : Type 0} → ℕ → List (Bool × A) → Type 0
Taken k [] = ⊥
Taken zero (t ∷ ts) = t.0 ≡ true
Taken (suc k) (t ∷ ts) = (t.0 ≡ false) × Taken k ts

abbrev pub value_at : {A : Type 0} → ℕ → List (Bool × A) → A → A
value_at k [] z = z
value_at zero (t ∷ ts) z = t.1
value_at (suc k) (t ∷ ts) z = value_at k ts z

pub rung : {A : Type 0} (k : ℕ) (ts : List (Bool × A)) (z : A) → Taken k ts → ladder ts z ≡ value_at k ts z
rung k [] z h = refl
rung zero (t ∷ ts) z h = rw h
rung (suc k) (t ∷ ts) z h = rw h.0 (rung k ts z h.1)
