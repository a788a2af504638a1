-- The sums of prediction: coefficients times the latest samples. Assumes nothing.
use Prim.Native.Nat.{ℕ, zero, suc, ◌+◌, ◌-◌, ◌^◌, ◌≤◌, ◌<◌}
use native.Mathlib.Omega.{arith}
use mathlib.Core.Path.{◌≡◌, refl, ap, ap₂, sym, ◌∙◌}
use mathlib.Core.Bool.{Bool, true, false}
use mathlib.Core.List.{List, [], ◌∷◌, ◌++◌, reverse, reverse-cons, reverse-append}
use borrow.Author.Tests.{ltb-true, ltb-false}
use borrow.Rule.Slice.PartMut.{mid_len}
use lib.Dec.{ltb, lit<}
use lib.IntN.{ℤ, pos, nat_abs, ◌+ℤ◌, ◌*ℤ◌}
use lib.ListN.{length, get_or, take, drop, length-reverse, get_or-append}
use lib.Seq.{take-add, get_or-append-add}
use mir.Syntax.{w32, w64}
use mir.Val.{SFits, to_z, of_z}
use mir.Facts.{to_z-of_z}
use Rattle.number.specs.Private.{Small}
use Rattle.number.proofs.ProductSums.{DotSoFar, room, coefficient, step, sample-fits_33}
use Rattle.rfc9639.specs.Prediction.{dot, fixed_coefficients}
use Rattle.subframe.specs.Private.{Predictable}

-- ---- the latest sample first

pub reverse_at : (l : List ℤ) (j : ℕ) → j < length l → get_or (reverse l) j (pos 0) ≡ get_or l (length l - 1 - j) (pos 0)
reverse_at [] j h = absurd (omega arith)
reverse_at (x ∷ l) j h = ap (λ (r : List ℤ). get_or r j (pos 0)) (reverse-cons x l) ∙ go (λ k. reverse_at l j k) (ltb j (length l)) refl
  where
    go : (j < length l → get_or (reverse l) j (pos 0) ≡ get_or l (length l - 1 - j) (pos 0)) → (t : Bool) → ltb j (length l) ≡ t
        → get_or (reverse l ++ x ∷ []) j (pos 0) ≡ get_or (x ∷ l) (suc (length l) - 1 - j) (pos 0)
    go again true e =
        let k = ltb-true j (length l) e in
        get_or-append (reverse l) (x ∷ []) (pos 0) j (omega (arith, length-reverse l)) ∙ again k
        ∙ ap (λ n. get_or (x ∷ l) n (pos 0)) (let f : suc (length l - 1 - j) ≡ suc (length l) - 1 - j = omega arith in f)
    go again false e =
        let k = ltb-false j (length l) e in
        ap (λ n. get_or (reverse l ++ x ∷ []) n (pos 0)) (let f : j ≡ length (reverse l) + 0 = omega (arith, length-reverse l) in f)
        ∙ get_or-append-add (reverse l) (x ∷ []) 0 (pos 0)
        ∙ ap (λ n. get_or (x ∷ l) n (pos 0)) (let f : 0 ≡ suc (length l) - 1 - j = omega arith in f)

-- ---- sums of products

-- samples past the number of coefficients do not count
dot-front : (acc : ℤ) (cs xs ys : List ℤ) → length cs ≤ length xs → dot acc cs (xs ++ ys) ≡ dot acc cs xs
unfolding dot
dot-front acc [] xs ys h = refl
dot-front acc (c ∷ cs) [] ys h = absurd (omega arith)
dot-front acc (c ∷ cs) (x ∷ xs) ys h = dot-front (acc +ℤ c *ℤ x) cs xs ys (omega arith)

-- the latest m of i samples are enough for m coefficients
pub dot-latest : (cs l : List ℤ) (m i : ℕ) → length cs ≤ m → m ≤ i → i ≤ length l
    → dot (pos 0) cs (reverse (take (i - (i - m)) (drop (i - m) l))) ≡ dot (pos 0) cs (reverse (take i l))
dot-latest cs l m i h k g =
    sym (dot-front (pos 0) cs (reverse late) (reverse early) (omega (arith, length-reverse late, mid_len (i - m) i l g)))
    ∙ ap (dot (pos 0) cs)
    (sym (reverse-append early late)
    ∙ ap (λ (r : List ℤ). reverse r) (sym (take-add (i - m) (i - (i - m)) l) ∙ ap (λ n. take n l) (let e : i - m + (i - (i - m)) ≡ i = omega arith in e)))
  where
    early : List ℤ
    early = take (i - m) l

    late : List ℤ
    late = take (i - (i - m)) (drop (i - m) l)

-- ---- a loop over the products; the code passes a signed value by its bits

module _ (cs before : List ℤ) {acc j : ℕ} (inv : DotSoFar cs (reverse before) acc j) (fit : Predictable 32 cs before) (i : ℕ) (next : j ≡ suc i)
    (c : SFits w32 (get_or cs i (pos 0))) where
  enough : length cs ≤ length (reverse before)
  enough = omega (arith, length-reverse before)

  pub mul_add-asks : (nat_abs (to_z w64 acc) < 2 ^ 62) × (nat_abs (to_z w32 (of_z w32 (get_or cs i (pos 0)))) < 2 ^ 15)
  mul_add-asks = (room inv fit.0, rw (to_z-of_z c) (coefficient inv fit.0 enough fit.2 i next))

  pub turn : (k : ℕ) → k ≡ length before - 1 - i → SFits w32 (get_or before k (pos 0)) → (r : ℤ)
      → r ≡ to_z w64 acc +ℤ to_z w32 (of_z w32 (get_or cs i (pos 0))) *ℤ to_z w32 (of_z w32 (get_or before k (pos 0))) → SFits w64 r
      → DotSoFar cs (reverse before) (of_z w64 r) i
  turn k e f r h g =
      step inv fit.0 enough fit.2 i next r (h ∙ ap₂ (λ (a b : ℤ). to_z w64 acc +ℤ a *ℤ b) (to_z-of_z c) (to_z-of_z f ∙ sym there))
      (rw there (sample-fits_33 f)) g
    where
      there : get_or (reverse before) i (pos 0) ≡ get_or before k (pos 0)
      there = reverse_at before i (omega (arith, inv.within)) ∙ ap (λ n. get_or before n (pos 0)) (sym e)

-- ---- the last arm of a match on the order

-- none of k orders from the least on
abbrev pub Others : ℕ → ℕ → ℕ → Type 0
Others n least zero = Unit {0}
Others n least (suc k) = Others n least k × (n ≡ least + k → ⊥)

others-left : (n least k : ℕ) → Others n least k → least ≤ n → least + k ≤ n
others-left n least zero o h = omega arith
others-left n least (suc k) o h = let g = others-left n least k o.0 h in let d = o.1 in omega arith

-- the last arm has the one order that the others leave
pub last-order : (n least k : ℕ) → Others n least k → least ≤ n → n ≤ least + k → n ≡ least + k
last-order n least k o h g = let e = others-left n least k o h in omega arith

-- ---- the coefficients of each fixed order: as many as the order, and small

pub fixed-row : (order : ℕ) → order ≤ 4 → (length (fixed_coefficients order) ≡ order) × Small (2 ^ 15) (fixed_coefficients order)
unfolding fixed_coefficients
fixed-row zero h = (refl, tt)
fixed-row (suc zero) h = (refl, (lit< tt, tt))
fixed-row (suc (suc zero)) h = (refl, (lit< tt, (lit< tt, tt)))
fixed-row (suc (suc (suc zero))) h = (refl, (lit< tt, (lit< tt, (lit< tt, tt))))
fixed-row (suc (suc (suc (suc zero)))) h = (refl, (lit< tt, (lit< tt, (lit< tt, (lit< tt, tt)))))
fixed-row (suc (suc (suc (suc (suc n))))) h = absurd (omega arith)
