-- The subframe is read back, whichever candidate it is stored as (RFC 9639 section 9.2). Assumes nothing.
use Prim.Native.Nat.{ℕ, zero, suc, ◌+◌, ◌≤◌, ◌<◌, min}
use native.Mathlib.Nat.{sub-zero}
use native.Mathlib.Omega.{arith}
use mathlib.Core.Path.{◌≡◌, refl, ap, ap₂, sym, ◌∙◌}
use mathlib.Core.Bool.{true}
use mathlib.Core.List.{List, [], ◌∷◌, ◌++◌, map, append_assoc, append-nil}
use borrow.Author.Tests.{eqb-true, lt-ltb, le-leb}
use lib.IntN.{ℤ, pos, negsuc, one, *ℤ-one}
use lib.ListN.{length, take, replicate}
use lib.Seq.{length-take-le}
use Rattle.reading.specs.Readers.{done, many}
use Rattle.reading.specs.NumbersAsBits.{bits_of, row}
use Rattle.reading.proofs.ByteRuns.{and_fst, and_snd}
use Rattle.reading.proofs.Postconditions.{Every, every_imp, every_take}
use Rattle.rfc9639.specs.declared.Candidate.{Candidate}
use Rattle.rfc9639.specs.declared.SubframeType.{SubframeType}
use Rattle.rfc9639.specs.declared.SubframeType.TheVariants.{Constant, Verbatim, Fixed}
use Rattle.rfc9639.specs.Integers.{low, signed_bits, shift_up}
use Rattle.rfc9639.specs.Subframe.{subframe_type, wasted_bits, checked_wasted_bits, kind_and_wasted, subframe_header, order_of, fixed, samples_by_type, subframe_after_header, subframe}
use Rattle.rfc9639.specs.SubframeCoding.{fixed_residuals, residual_bits, plain, subframe_header_bits, coded_as, equal_samples, uniform, subframe_bits}
use Rattle.rfc9639.proofs.Widths.{Fits, fits-mono, shift_up-exact}
use Rattle.rfc9639.proofs.Lengths.{length-fixed_residuals}
use Rattle.rfc9639.proofs.FewestBits as Choosing
use Rattle.rfc9639.proofs.FewestBits.{chosen_candidate}
use Rattle.readback.proofs.SpelledValues.{Spells, spells_as, spells_value, spells_by, spells_bits, spells_done, spells_bind, spells_then, spells_last, spells_checked}
use Rattle.readback.proofs.SamplesAndResiduals.{spells_signed_bits, spells_plain, spells_residual}
use Rattle.readback.proofs.Prediction.{predict-fixed_residuals, fixed_residuals-small}

-- ---- the header

module _ (w : ℕ) (h : 1 ≤ w) where
  spells_wasted : {before : List ℕ} → Spells before (checked_wasted_bits w) (bits_of 1 0) 0
  unfolding checked_wasted_bits wasted_bits
  spells_wasted = spells_last _ (spells_last _ (spells_bits 1 {v = 0} (omega arith)) spells_done) (spells_checked 9 _ (lt-ltb 0 w h) spells_done)

  spells_subframe_header_bits : (code : ℕ) {kind : SubframeType} → code < 64 → subframe_type code ≡ done kind
      → {before : List ℕ} → Spells before (subframe_header w) (subframe_header_bits code) (record { kind = kind; wasted = 0 })
  unfolding subframe_header subframe_header_bits kind_and_wasted
  spells_subframe_header_bits code l e =
      spells_as (sym (append_assoc (bits_of 1 0) (bits_of 6 code) (bits_of 1 0)))
      (spells_bind _ (spells_bits 1 {v = 0} (omega arith))
      (spells_checked 4 _ refl
      (spells_bind _ (spells_bits 6 l)
      (spells_then _ (spells_by e spells_done) (spells_last _ spells_wasted spells_done)))))

-- ---- no wasted bits

shift_up-none : (x : ℤ) → Fits 32 x → shift_up 0 x ≡ x
unfolding one
shift_up-none x f = shift_up-exact {w = 32} (omega arith) f 0 (omega arith) ∙ *ℤ-one x

map-shift_up-none : (xs : List ℤ) → Every (Fits 32) xs → map (shift_up 0) xs ≡ xs
map-shift_up-none [] h = refl
map-shift_up-none (x ∷ xs) h = ap₂ (λ y ys. y ∷ ys) (shift_up-none x h.0) (map-shift_up-none xs h.1)

-- ---- equal samples

equal_samples_is : (x y : ℤ) → equal_samples x y ≡ true → x ≡ y
unfolding equal_samples
equal_samples_is (pos a) (pos b) e = ap pos (eqb-true a b e)
equal_samples_is (pos a) (negsuc b) e = cc
equal_samples_is (negsuc a) (pos b) e = cc
equal_samples_is (negsuc a) (negsuc b) e = ap negsuc (eqb-true a b e)

replicate-uniform : (x : ℤ) (xs : List ℤ) → uniform (x ∷ xs) ≡ true → replicate (length xs) x ≡ xs
unfolding uniform
replicate-uniform x [] e = refl
replicate-uniform x (y ∷ ys) e =
    ap₂ (λ z zs. z ∷ zs) (equal_samples_is x y (and_fst (equal_samples x y) (uniform (x ∷ ys)) e)) (replicate-uniform x ys (and_snd (equal_samples x y) (uniform (x ∷ ys)) e))

-- ---- each candidate

subframe_type-fixed : (order : ℕ) → order < 5 → subframe_type (8 + order) ≡ done (Fixed order)
unfolding subframe_type
subframe_type-fixed zero h = refl
subframe_type-fixed (suc zero) h = refl
subframe_type-fixed (suc (suc zero)) h = refl
subframe_type-fixed (suc (suc (suc zero))) h = refl
subframe_type-fixed (suc (suc (suc (suc zero)))) h = refl
subframe_type-fixed (suc (suc (suc (suc (suc order))))) h = absurd (omega arith)

module _ (w : ℕ) (h : 1 ≤ w) (most : w ≤ 25) (xs : List ℤ) (fit : Every (Fits w) xs) where
  fit_in : (v : ℕ) → w ≤ v → Every (Fits v) xs
  fit_in v l = every_imp (λ x f. fits-mono l f) xs fit

  module _ {before : List ℕ} where
    -- after a header with no wasted bits
    spells_kind : (code : ℕ) (kind : SubframeType) {bs : List ℕ} → code < 64 → subframe_type code ≡ done kind → order_of kind ≤ length xs
        → Spells (before ++ subframe_header_bits code) (samples_by_type kind w (length xs)) bs xs → Spells before (subframe (length xs) w) (subframe_header_bits code ++ bs) xs
    unfolding subframe subframe_after_header
    spells_kind code kind l e o s =
        spells_bind _ (spells_subframe_header_bits w h code l e)
        (spells_checked 9 _ (le-leb (order_of kind) (length xs) o)
        (spells_last _ (spells_by (ap (λ v. samples_by_type kind v (length xs)) (sub-zero w)) s)
        (spells_value (map-shift_up-none xs (fit_in 32 (omega arith))) spells_done)))

    spells_verbatim : Spells before (subframe (length xs) w) (coded_as Candidate.Verbatim w xs) xs
    unfolding coded_as samples_by_type subframe_type order_of
    spells_verbatim = spells_kind 1 Verbatim (omega arith) refl (omega arith) (spells_plain w h xs fit)

    spells_constant : 1 ≤ length xs → uniform xs ≡ true → Spells before (subframe (length xs) w) (coded_as Candidate.Constant w xs) xs
    unfolding coded_as samples_by_type plain row subframe_type order_of
    spells_constant some u = spells_kind 0 Constant (omega arith) refl (omega arith) (go xs fit some u)
      where
        go : (ys : List ℤ) → Every (Fits w) ys → 1 ≤ length ys → uniform ys ≡ true
            → Spells (before ++ subframe_header_bits 0) (samples_by_type Constant w (length ys)) (plain w (take 1 ys)) ys
        go [] f s u = absurd (omega arith)
        go (y ∷ ys) f s u =
            spells_as (sym (append-nil (bits_of w (low w y))))
            (spells_last _ (spells_signed_bits w h y f.0 _) (spells_value (ap (λ zs. y ∷ zs) (replicate-uniform y ys u)) spells_done))

    spells_fixed : (order k : ℕ) → order < min 5 (length xs) → k < 15 → Spells before (subframe (length xs) w) (coded_as (Candidate.Fixed order k) w xs) xs
    unfolding coded_as samples_by_type order_of fixed
    spells_fixed order k o l =
        let rs = fixed_residuals order xs in
        let small = fixed_residuals-small order xs (fit_in 25 most) in
        spells_as (sym (append_assoc (subframe_header_bits (8 + order)) (plain w (take order xs)) (residual_bits k rs)))
        (spells_kind (8 + order) (Fixed order) (omega arith) (subframe_type-fixed order (omega arith)) (omega arith)
        (spells_bind _
        (spells_by (ap (λ n. many n (signed_bits w)) (sym (length-take-le order xs (omega arith)))) (spells_plain w h (take order xs) (every_take (Fits w) order xs fit)))
        (spells_last _ (spells_residual k l rs small order (length xs) (omega arith) (length-fixed_residuals order xs))
        (spells_value (predict-fixed_residuals order xs (fit_in 32 (omega arith))) spells_done))))

    pub spells_subframe : 1 ≤ length xs → Spells before (subframe (length xs) w) (subframe_bits w xs) xs
    unfolding subframe_bits
    spells_subframe some = go (chosen_candidate xs w)
      where
        go : {c : Candidate} → Choosing.CandidateOf xs c → Spells before (subframe (length xs) w) (coded_as c w xs) xs
        go (Choosing.constant u) = spells_constant some u
        go Choosing.verbatim = spells_verbatim
        go (Choosing.fixed order k o l) = spells_fixed order k o l
