-- The bounds that a subframe's header, and a precision and shift, keep. Assumes nothing.
use Prim.Native.Nat.{ℕ, ◌-◌, ◌^◌, ◌≤◌, ◌<◌}
use native.Mathlib.Omega.{arith}
use mathlib.Core.Path.{◌≡◌, refl, subst}
use mathlib.Core.Bool.{Bool, true, false, ◌&&◌}
use mathlib.Core.List.{List}
use borrow.Author.Tests.{ltb-true, leb-true}
use lib.Dec.{leb, ltb, eqb}
use Rattle.reading.specs.declared.Place.{Place}
use Rattle.reading.specs.Readers.{Ask}
use Rattle.reading.specs.Places.{got_at, run_at}
use Rattle.reading.proofs.Postconditions.{Holds, value, refusal, Meets, holds_at, holds_bind, holds_bits, holds_refused, holds_zeros, holds_require, holds_if}
use Rattle.rfc9639.specs.declared.SubframeType.TheVariants.{Fixed, Lpc}
use Rattle.rfc9639.specs.declared.SubframeHeader.{SubframeHeader}
use Rattle.rfc9639.specs.Subframe.{subframe_type, wasted_bits, checked_wasted_bits, kind_and_wasted, subframe_header, quantization}
use Rattle.subframe.specs.Private.{Orderly}

-- ---- a header: its order and its wasted bits

-- the test of the wasted bits
wasted_test-true : (k width : ℕ) → (leb k 31 && ltb k width) ≡ true → (k ≤ 31) × (k < width)
wasted_test-true k width e = go (leb k 31) refl e
  where
    go : (b : Bool) → leb k 31 ≡ b → (b && ltb k width) ≡ true → (k ≤ 31) × (k < width)
    go true f g = (leb-true _ _ f, ltb-true _ _ g)
    go false f g = absurd (let z : ◌≡◌ {A = ℕ} 0 1 = cc in omega arith)

pub record HeaderSound (width : ℕ) (h : SubframeHeader) : Type 0 where
  pub orderly : Orderly h.kind
  pub few : h.wasted ≤ 31
  pub narrow : h.wasted < width

-- nothing is asked of a refusal
abbrev pub AnyRefusal : ℕ → Type 0
AnyRefusal n = Unit {0}

-- what holds of every value that a reader can give holds of the one it gave
pub got_holds : {A : Type 0} {P : A → Type 0} {p : Ask A} → Holds AnyRefusal P p → (s : List ℕ) (at : Place) {a : A} {q : Place} → run_at p s at ≡ got_at a q → P a
got_holds {P = P} h s at e = subst (Meets AnyRefusal P) e (holds_at AnyRefusal P s at h)

-- a type is refused for a reserved code alone
pub holds_type : (code : ℕ) → code < 2 ^ 6 → Holds (λ n. n ≡ 4) Orderly (subframe_type code)
unfolding subframe_type
holds_type code l =
    holds_if (eqb code 0) (λ _. value tt)
    (λ _. holds_if (eqb code 1) (λ _. value tt)
    (λ _. holds_if (ltb code 8) (λ _. refusal refl)
    (λ _. holds_if (leb code 12) (λ e. value {a = Fixed (code - 8)} (let h = leb-true code 12 e in omega arith))
    (λ _. holds_if (ltb code 32) (λ _. refusal refl) (λ _. value {a = Lpc (code - 31)} (omega arith))))))

holds_wasted : Holds AnyRefusal (λ k. Unit {0}) wasted_bits
unfolding wasted_bits
holds_wasted = holds_bind _ (holds_bits 1) (λ v _. holds_if (eqb v 0) (λ _. value tt) (λ _. holds_bind _ holds_zeros (λ z _. value tt)))

holds_checked : (width : ℕ) → Holds AnyRefusal (λ k. (k ≤ 31) × (k < width)) (checked_wasted_bits width)
unfolding checked_wasted_bits
holds_checked width = holds_bind _ holds_wasted (λ k _. holds_bind _ (holds_require _ 9 tt) (λ _ t. value {a = k} (wasted_test-true k width t)))

holds_header : (width : ℕ) → Holds AnyRefusal (HeaderSound width) (subframe_header width)
unfolding subframe_header kind_and_wasted
holds_header width =
    holds_bind _ (holds_bits 1)
    (λ v _. holds_bind _ (holds_require _ 4 tt)
    (λ _ _. holds_bind _ (holds_bits 6)
    (λ code l. holds_bind _ (holds_refused (λ _ _. tt) (holds_type code l))
    (λ kind o. holds_bind _ (holds_checked width) (λ k j. value (record { orderly = o; few = j.0; narrow = j.1 }))))))

pub header-sound : (width : ℕ) (s : List ℕ) (at : Place) {h : SubframeHeader} {p : Place} → run_at (subframe_header width) s at ≡ got_at h p → HeaderSound width h
header-sound width s at e = got_holds (holds_header width) s at e

-- ---- a precision of 1 to 15 bits, a shift below 16

pub record QuantizationSound (precision shift : ℕ) : Type 0 where
  pub some : 1 ≤ precision
  pub few : precision ≤ 15
  pub near : shift < 16

holds_quantization : Holds AnyRefusal (λ q. QuantizationSound q.0 q.1) quantization
unfolding quantization
holds_quantization =
    holds_bind _ (holds_bits 4)
    (λ precision _. holds_bind _ (holds_require _ 4 tt)
    (λ _ t. holds_bind _ (holds_bits 5)
    (λ shift _. holds_bind _ (holds_require _ 8 tt)
    (λ _ u. let k = ltb-true precision 15 t in let l = ltb-true shift 16 u in value (record { some = omega arith; few = omega arith; near = l })))))

pub quantization-sound : (s : List ℕ) (at : Place) {precision shift : ℕ} {p : Place} → run_at quantization s at ≡ got_at (precision, shift) p
    → QuantizationSound precision shift
quantization-sound s at e = got_holds holds_quantization s at e
