-- Sums of products: at most 32 coefficients of 16 bits with samples of 33 are exact at 64 bits. Assumes nothing.
use Prim.Native.Nat.{ℕ, zero, suc, ◌+◌, ◌-◌, ◌*◌, ◌^◌, ◌≤◌, ◌<◌}
use native.Mathlib.Nat.{le_of_lt, mul-le-mul}
use native.Mathlib.Omega.{arith}
use mathlib.Core.Path.{◌≡◌, ap, ap₂, sym, ◌∙◌, subst}
use mathlib.Core.List.{List, [], ◌∷◌}
use lib.IntN.{ℤ, pos, nat_abs, ◌+ℤ◌, ◌*ℤ◌, +ℤ_idl, +ℤ_assoc, +ℤ_comm}
use lib.ListN.{length, get_or, drop, drop_of_length-le}
use lib.Seq.{drop-cons}
use mir.Syntax.{w32, w64}
use mir.Val.{SFits, to_z, of_z}
use mir.Facts.{to_z-of_z}
use Rattle.rfc9639.specs.Prediction.{dot}
use Rattle.rfc9639.proofs.Widths.{Fits, of_sfits, to_sfits, fits-mono}
pub use Rattle.rfc9639.proofs.Magnitudes.{fits_of_abs, abs_of_fits, abs_add, abs_neg, abs_mul, abs_shift_down}
use Rattle.number.specs.Private.{Small}

-- ---- a number's size

pub sfits_of_abs : (z : ℤ) → nat_abs z < 2 ^ 63 → SFits w64 z
sfits_of_abs z h = to_sfits (fits_of_abs 64 z h)

pub add_fits : (a b : ℤ) → nat_abs a < 2 ^ 62 → nat_abs b ≤ 2 ^ 62 → SFits w64 (a +ℤ b)
add_fits a b h k = sfits_of_abs (a +ℤ b) (omega (arith, abs_add a b))

-- ---- a product of two natural numbers

pub product_at_most : (m n : ℕ) {a b : ℕ} → a < m → b < n → a * b ≤ m * n
product_at_most m n h l = mul-le-mul {n₂ = m} {m₂ = n} (le_of_lt h) (le_of_lt l)

-- ---- one product, and a sum with it. A sample has at most 33 bits: a side channel is one bit wider than 32.

module _ (c x : ℤ) (h : nat_abs c < 2 ^ 15) (l : Fits 33 x) where
  pub abs_product : nat_abs (c *ℤ x) ≤ 2 ^ 47
  abs_product = subst (λ n. n ≤ 2 ^ 47) (sym (abs_mul c x)) (mul-le-mul {n₂ = 2 ^ 15} {m₂ = 2 ^ 32} (le_of_lt h) (abs_of_fits l))

  pub product-fits : SFits w64 (c *ℤ x)
  product-fits = sfits_of_abs (c *ℤ x) (omega (arith, abs_product))

  pub abs_mul_add : (a : ℤ) → nat_abs (a +ℤ c *ℤ x) ≤ nat_abs a + 2 ^ 47
  abs_mul_add a = omega (arith, abs_add a (c *ℤ x), abs_product)

  pub mul_add-fits : (a : ℤ) → nat_abs a < 2 ^ 62 → SFits w64 (a +ℤ c *ℤ x)
  mul_add-fits a k = sfits_of_abs (a +ℤ c *ℤ x) (omega (arith, abs_mul_add a))

-- an i32 has at most 33 bits
pub sample-fits_33 : {z : ℤ} → SFits w32 z → Fits 33 z
sample-fits_33 f = fits-mono {w = 32} {w' = 33} (omega arith) (of_sfits f)

-- ---- a loop over the products (the code keeps a signed value by its bits)

small_at : (b : ℕ) (l : List ℤ) (i : ℕ) → i < length l → Small b l → nat_abs (get_or l i (pos 0)) < b
small_at b [] i h s = absurd (omega arith)
small_at b (z ∷ l) zero h s = s.0
small_at b (z ∷ l) (suc i) h s = small_at b l i (omega arith) s.1

-- what a sum starts from may be added last
dot_onto : (a : ℤ) (cs xs : List ℤ) → dot a cs xs ≡ dot (pos 0) cs xs +ℤ a
unfolding dot
dot_onto a [] xs = sym (+ℤ_idl a)
dot_onto a (c ∷ cs) [] = sym (+ℤ_idl a)
dot_onto a (c ∷ cs) (x ∷ xs) =
    dot_onto (a +ℤ c *ℤ x) cs xs ∙ ap (λ (z : ℤ). d +ℤ z) (+ℤ_comm a (c *ℤ x)) ∙ sym (+ℤ_assoc d (c *ℤ x) a)
    ∙ ap (λ (z : ℤ). d +ℤ z +ℤ a) (sym (+ℤ_idl (c *ℤ x))) ∙ ap (λ (z : ℤ). z +ℤ a) (sym (dot_onto (pos 0 +ℤ c *ℤ x) cs xs))
  where
    d : ℤ
    d = dot (pos 0) cs xs

-- the products from j on are added up in acc
pub record DotSoFar (cs xs : List ℤ) (acc j : ℕ) : Type 0 where
  pub within : j ≤ length cs
  pub bound : nat_abs (to_z w64 acc) ≤ (length cs - j) * 2 ^ 47
  pub same : to_z w64 acc ≡ dot (pos 0) (drop j cs) (drop j xs)

pub begin : (cs xs : List ℤ) (j : ℕ) → length cs ≡ j → DotSoFar cs xs 0 j
unfolding dot
begin cs xs j e = record {
  within = omega arith;
  bound = omega arith;
  same = ap (λ (l : List ℤ). dot (pos 0) l (drop j xs)) (sym (drop_of_length-le cs (let h : length cs ≤ j = omega arith in h)));
}

module _ {cs xs : List ℤ} {acc j : ℕ} (inv : DotSoFar cs xs acc j) (few : length cs ≤ 32) where
  pub room : nat_abs (to_z w64 acc) < 2 ^ 62
  room = omega (arith, inv.bound)

  module _ (long : length cs ≤ length xs) (small : Small (2 ^ 15) cs) (i : ℕ) (next : j ≡ suc i) where
    pub coefficient : nat_abs (get_or cs i (pos 0)) < 2 ^ 15
    coefficient = small_at (2 ^ 15) cs i (omega (arith, inv.within)) small

    pub step : (r : ℤ) → r ≡ to_z w64 acc +ℤ get_or cs i (pos 0) *ℤ get_or xs i (pos 0) → Fits 33 (get_or xs i (pos 0)) → SFits w64 r → DotSoFar cs xs (of_z w64 r) i
    unfolding dot
    step r e f g = record {
      within = omega (arith, inv.within);
      bound =
          rw (to_z-of_z g, e) (omega (arith, abs_mul_add (get_or cs i (pos 0)) (get_or xs i (pos 0)) coefficient f (to_z w64 acc), inv.bound, inv.within));
      same =
          to_z-of_z g ∙ e
          ∙ ap (λ (z : ℤ). z +ℤ product) (inv.same ∙ ap (λ n. dot (pos 0) (drop n cs) (drop n xs)) next)
          ∙ ap (λ (z : ℤ). dot (pos 0) (drop (suc i) cs) (drop (suc i) xs) +ℤ z) (sym (+ℤ_idl product))
          ∙ sym (dot_onto (pos 0 +ℤ product) (drop (suc i) cs) (drop (suc i) xs))
          ∙ sym (ap₂ (dot (pos 0)) (drop-cons cs i (pos 0) (omega (arith, inv.within))) (drop-cons xs i (pos 0) (omega (arith, inv.within))));
    }
      where
        product : ℤ
        product = get_or cs i (pos 0) *ℤ get_or xs i (pos 0)

  pub end : j ≤ 0 → to_z w64 acc ≡ dot (pos 0) cs xs
  end h = inv.same ∙ ap (λ n. dot (pos 0) (drop n cs) (drop n xs)) (let e : j ≡ 0 = omega arith in e)
