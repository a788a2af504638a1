-- Samples and residuals are read back (RFC 9639 sections 9.2.4 and 9.2.7). Assumes nothing.
use Prim.Native.Nat.{ℕ, ◌+◌, ◌*◌, ◌-◌, ◌/◌, ◌%◌, ◌^◌, ◌≤◌, ◌<◌}
use native.Mathlib.Nat.{mod-lt, mod-eq_of_lt, div-add-mod'}
use native.Mathlib.Omega.{arith}
use mathlib.Core.Path.{◌≡◌, refl, ap, ◌∙◌}
use mathlib.Core.Bool.{true}
use mathlib.Core.List.{List, [], ◌∷◌, ◌++◌, append_assoc, append-nil}
use borrow.Author.Tests.{ltb-true, le-leb, eq-eqb, ne_eqb}
use lib.IntN.{ℤ, pos, negsuc}
use lib.ListN.{length}
use lib.Pow.{pow_pos}
use Rattle.reading.specs.Readers.{many, each}
use Rattle.reading.specs.NumbersAsBits.{bits_of, row}
use Rattle.reading.proofs.ByteRuns.{and_fst, and_snd}
use Rattle.reading.proofs.Postconditions.{Every}
use Rattle.reading.proofs.NumbersAsBits.{bits_of_mod}
use Rattle.rfc9639.specs.Integers.{low, wrapped, signed_bits}
use Rattle.rfc9639.specs.Residual.{unfolded, folded, rice, coded_residuals, partition, partition_sizes, residual}
use Rattle.rfc9639.specs.SubframeCoding.{fold, rice_bits, residual_bits, plain}
use Rattle.rfc9639.specs.Write.{fits, all_fit}
use Rattle.rfc9639.proofs.Widths.{Fits, low_lt, wrapped_same}
use Rattle.readback.proofs.SpelledValues.{Spells, spells_as, spells_value, spells_by, spells_bits, spells_zeros, spells_done, spells_bind, spells_then, spells_last, spells_checked, spells_many}

-- ---- unencoded samples

fits_facts : (w : ℕ) (x : ℤ) → fits w x ≡ true → Fits w x
unfolding fits
fits_facts w (pos n) e = record { fits = ltb-true n (2 ^ (w - 1)) e }
fits_facts w (negsuc n) e = record { fits = ltb-true n (2 ^ (w - 1)) e }

pub all_fit_facts : (w : ℕ) (xs : List ℤ) → all_fit w xs ≡ true → Every (Fits w) xs
unfolding all_fit
all_fit_facts w [] e = tt
all_fit_facts w (x ∷ xs) e = (fits_facts w x (and_fst (fits w x) (all_fit w xs) e), all_fit_facts w xs (and_snd (fits w x) (all_fit w xs) e))

module _ (w : ℕ) (h : 1 ≤ w) where
  pub spells_signed_bits : (x : ℤ) → Fits w x → (before : List ℕ) → Spells before (signed_bits w) (bits_of w (low w x)) x
  unfolding signed_bits wrapped
  spells_signed_bits x f before = spells_last _ (spells_bits w (low_lt w x)) (spells_value (wrapped_same w x h f) spells_done)

  pub spells_plain : (xs : List ℤ) → Every (Fits w) xs → {before : List ℕ} → Spells before (many (length xs) (signed_bits w)) (plain w xs) xs
  unfolding plain
  spells_plain = spells_many (Fits w) _ (signed_bits w) spells_signed_bits

-- ---- residuals

-- the folded form fits 32 bits
abbrev pub Small : ℤ → Type 0
Small r = fold r < 2 ^ 32

unfolded-fold : (r : ℤ) → unfolded (fold r) ≡ r
unfolding unfolded fold
unfolded-fold (pos n) = rw (eq-eqb (n * 2 % 2) 0 (omega arith)) (ap pos (omega arith))
unfolded-fold (negsuc n) = rw (ne_eqb ((n * 2 + 1) % 2) 0 (omega arith)) (ap negsuc (omega arith))

module _ (k : ℕ) where
  spells_rice : (r : ℤ) → Small r → (before : List ℕ) → Spells before (rice k) (rice_bits k r) r
  unfolding rice rice_bits folded
  spells_rice r h before =
      let v = fold r in
      spells_bind _ (spells_zeros (v / 2 ^ k))
      (spells_as (bits_of_mod k v)
      (spells_last _ (spells_bits k (mod-lt v (pow_pos k)))
      (spells_value (ap unfolded (ap (λ x. x % 2 ^ 32) (div-add-mod' v (2 ^ k)) ∙ mod-eq_of_lt h) ∙ unfolded-fold r) spells_done)))

  module _ (h : k < 15) (rs : List ℤ) (small : Every Small rs) where
    spells_partition : {before : List ℕ} → Spells before (partition 0 (length rs)) (bits_of 4 k ++ row (rice_bits k) rs) rs
    unfolding partition coded_residuals
    spells_partition =
        spells_bind _ (spells_bits 4 (omega arith)) (spells_by (rw (ne_eqb k 15 (omega arith))) (spells_many Small (rice_bits k) (rice k) spells_rice rs small))

    -- one partition, after the warm-up
    pub spells_residual : (order n : ℕ) → order ≤ n → length rs ≡ n - order → {before : List ℕ} → Spells before (residual order n) (residual_bits k rs) rs
    unfolding residual residual_bits each partition_sizes
    spells_residual order n l e =
        spells_as (simp append_assoc)
        (spells_bind _ (spells_bits 2 {v = 0} (omega arith))
        (spells_checked 4 _ refl
        (spells_bind _ (spells_bits 4 {v = 0} (omega arith))
        (spells_checked 9 _ (eq-eqb (n % 1) 0 (omega arith))
        (spells_checked 9 _ (le-leb order (n / 1) (omega arith))
        (spells_last _ (spells_by (ap (partition 0) (let f : n / 1 - order ≡ length rs = omega arith in f)) spells_partition)
        (spells_then _ spells_done (spells_value (append-nil rs) spells_done))))))))
