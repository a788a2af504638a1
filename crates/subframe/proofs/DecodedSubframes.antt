-- A subframe's samples: constant, predicted, shifted by the wasted bits, and zeros on a refusal. Assumes nothing.
use Prim.Native.Nat.{ℕ, suc, ◌+◌, ◌-◌, ◌^◌, ◌≤◌, ◌<◌}
use native.Mathlib.Numerals.{add-one}
use native.Mathlib.Omega.{arith}
use mathlib.Core.Path.{◌≡◌, refl, ap, ap₂, sym, ◌∙◌}
use mathlib.Core.List.{List, [], ◌∷◌, ◌++◌, map, append-nil}
use borrow.Author.Tests.{le-leb, lt-leb}
use borrow.Rule.Slice.PartMut.{put_mid}
use lib.IntN.{ℤ, pos, negsuc, one, *ℤ-one}
use lib.ListN.{length, take, drop, get_or, set, replicate, length-set}
use lib.Seq.{take-suc-set, drop-set-lt, drop-cons, append_snoc, take_all, drop-length}
use mir.Syntax.{w32}
use mir.Val.{SFits, to_z, of_z}
use mir.Facts.{to_z-of_z}
use Rattle.std.specs.Prelude.{Result}
use Rattle.std.specs.Result.{IsErrAnd}
use Rattle.reading.specs.declared.Place.{Place}
use Rattle.reading.specs.Readers.{Ask, done, ◌>>=◌, many}
use Rattle.reading.specs.Places.{got_at, refused_at, run_at}
use Rattle.reading.proofs.ByteRuns.{In, require_holds, require_fails}
use Rattle.reading.proofs.Postconditions.{Holds, value, Every, Sized, holds_bind, holds_bits, holds_many}
use Rattle.error.specs.declared.Refusal.{Refusal}
use Rattle.error.specs.Numbers.{refused_by}
use Rattle.number.specs.Private.{Small}
use Rattle.rfc9639.specs.declared.SubframeHeader.{SubframeHeader}
use Rattle.rfc9639.specs.declared.SubframeType.TheVariants.{Constant}
use Rattle.rfc9639.specs.Integers.{signed_bits, shift_up}
use Rattle.rfc9639.specs.Residual.{residual}
use Rattle.rfc9639.specs.Prediction.{predict}
use Rattle.rfc9639.specs.Subframe.{order_of, samples_by_type, subframe, subframe_after_header}
use Rattle.rfc9639.proofs.Widths.{Fits, fits-mono, signed-fits, of_sfits, shift_up-exact}
use Rattle.subframe.specs.Answers.{samples_at, subframe_at}
use Rattle.subframe.specs.Private.{Predictable, predicted_in_place, predicted_block}
use Rattle.subframe.proofs.SliceParts.{passed_on, bind_done, then_done, rest_put, first_taken, first_dropped}
use Rattle.subframe.proofs.HeaderBounds.{AnyRefusal, got_holds}

-- ---- a slice changed in place, each number by f

pub record Mapped (f : ℤ → ℤ) (l₀ l : List ℤ) (i : ℕ) : Type 0 where
  pub within : i ≤ length l
  pub long : length l ≡ length l₀
  pub same : map f l₀ ≡ take i l ++ map f (drop i l)

pub begin : (f : ℤ → ℤ) (l : List ℤ) → Mapped f l l 0
begin f l = record { within = omega arith; long = refl; same = refl }

module _ {f : ℤ → ℤ} {l₀ l : List ℤ} {i : ℕ} (inv : Mapped f l₀ l i) where
  step : (z : ℤ) → i < length l → z ≡ f (get_or l i (pos 0)) → Mapped f l₀ (set l i z) (i + 1)
  step z h e = record {
    within = simp length-set (omega arith);
    long = simp length-set inv.long;
    same =
        inv.same ∙ ap (λ (t : List ℤ). take i l ++ map f t) (drop-cons l i (pos 0) h)
        ∙ ap (λ (y : ℤ). take i l ++ y ∷ map f (drop (suc i) l)) (sym e)
        ∙ sym (append_snoc (take i l) z (map f (drop (suc i) l)))
        ∙ ap₂ (λ (a b : List ℤ). a ++ map f b) (sym (take-suc-set l i z h)) (sym (drop-set-lt (suc i) l i z (omega arith)))
        ∙ ap (λ n. take n (set l i z) ++ map f (drop n (set l i z))) (sym (add-one i));
  }

  -- the code passes a signed value by its bits
  pub turn : (z : ℤ) → i < length l → z ≡ f (to_z w32 (of_z w32 (get_or l i (pos 0)))) → SFits w32 (get_or l i (pos 0)) → SFits w32 z
      → Mapped f l₀ (set l i (to_z w32 (of_z w32 z))) (i + 1)
  turn z h e g k = rw (to_z-of_z k) (step z h (e ∙ ap f (to_z-of_z g)))

  -- a value that stays as it is
  pub kept : i < length l → get_or l i (pos 0) ≡ f (get_or l i (pos 0)) → Mapped f l₀ (set l i (get_or l i (pos 0))) (i + 1)
  kept h e = step (get_or l i (pos 0)) h e

  pub end : length l ≤ i → l ≡ map f l₀
  end h =
      sym (inv.same ∙ ap₂ (λ (a b : List ℤ). a ++ map f b) (take_all i l h) none ∙ append-nil l)
    where
      none : drop i l ≡ []
      none = ap (λ n. drop n l) (let e : i ≡ length l = omega (arith, inv.within) in e) ∙ drop-length l

-- without wasted bits a sample stays as it is
pub shift_none : {k : ℕ} {z : ℤ} → k ≡ 0 → SFits w32 z → z ≡ shift_up k z
unfolding one
shift_none {k} {z} e f = sym (ap (λ n. shift_up n z) e ∙ shift_up-exact {w = 32} (omega arith) (of_sfits f) 0 (omega arith) ∙ *ℤ-one z)

-- ---- a predictor's block

-- the block that prediction makes of the warm-up samples and a residual stored after them
pub predicted-put : (cs : List ℤ) (shift : ℕ) (l rest : List ℤ) → length cs ≤ length l
    → predicted_in_place cs shift (put_mid (length cs) (length l - length cs) l rest) ≡ predict cs shift (take (length cs) l) rest
predicted-put cs shift l rest h =
    ap (predicted_in_place cs shift) (rest_put (length cs) l h rest)
    ∙ ap₂ (λ (a b : List ℤ). predict cs shift a b) (first_taken (length cs) l h (take (length cs) l) refl rest) (first_dropped (length cs) l h (take (length cs) l) refl rest)

-- what `decode_predicted` requires and reads: T is the slice of the coefficients, L the block
module _ {T cs : List ℤ} {order : ℕ} (L : List ℤ) (e : T ≡ cs) (row : (length cs ≡ order) × Small (2 ^ 15) cs) where
  pub predictable : order ≤ 32 → order ≤ length L → Predictable 32 T L
  predictable few enough =
      let count : length T ≡ order = ap length e ∙ row.0 in (omega arith, omega arith, rw e row.1)

  pub predicted_block_lem : (shift n : ℕ) (warm : List ℤ) → take order L ≡ warm → length L ≡ n → (s : List ℕ) (at : Place)
      → run_at (predicted_block T shift L) s at ≡ run_at (residual order n >>= (λ r. done (predict cs shift warm r))) s at
  predicted_block_lem shift n warm f size s at =
      ap (λ t. run_at (predicted_block t shift L) s at) e
      ∙ ap (λ m. run_at (residual m (length L) >>= (λ r. done (predict cs shift (take m L) r))) s at) row.0
      ∙ ap₂ (λ k (w : List ℤ). run_at (residual order k >>= (λ r. done (predict cs shift w r))) s at) size f

-- ---- coefficients that were read: as many as the order, and small enough for exact sums

small-every : (xs : List ℤ) → Every (Fits 15) xs → Small (2 ^ 15) xs
small-every [] h = tt
small-every (pos n ∷ xs) h = (omega (arith, h.0.fits), small-every xs h.1)
small-every (negsuc n ∷ xs) h = (omega (arith, h.0.fits), small-every xs h.1)

holds_sample : (w : ℕ) → w ≤ 15 → Holds AnyRefusal (Fits 15) (signed_bits w)
unfolding signed_bits
holds_sample w h = holds_bind _ (holds_bits w) (λ v l. value (fits-mono h (signed-fits w v l)))

pub read-row : (precision order : ℕ) → precision ≤ 15 → (s : List ℕ) (at : Place) {cs : List ℤ} {p : Place}
    → run_at (many order (signed_bits precision)) s at ≡ got_at cs p → (length cs ≡ order) × Small (2 ^ 15) cs
read-row precision order h s at {cs} got =
    let sized : Sized order (Fits 15) cs = got_holds (holds_many order (holds_sample precision h)) s at got in (sized.count, small-every cs sized.every)

-- ---- one sample for all

module _ (w n : ℕ) (s : List ℕ) (at : Place) where
  pub constant-refused : (e : Refusal) (r : Result Place Refusal) → IsErrAnd r (λ y. y ≡ e) → refused_by e ≡ run_at (signed_bits w) s at → (left : List ℤ)
      → samples_at r left ≡ run_at (samples_by_type Constant w n) s at
  unfolding samples_by_type
  constant-refused e r i h = passed_on (signed_bits w) s at (λ x. done (replicate n x)) e r i h

  pub constant-done : {x : ℤ} {p : Place} {l : List ℤ} → got_at x p ≡ run_at (signed_bits w) s at → l ≡ replicate n x → got_at l p ≡ run_at (samples_by_type Constant w n) s at
  unfolding samples_by_type
  constant-done {p = p} e f = ap (λ t. got_at t p) f ∙ sym (bind_done (signed_bits w) (replicate n) s at (sym e))

-- ---- after a header

module _ (n width : ℕ) (h : SubframeHeader) (s : List ℕ) (at : Place) (here : In s at) where
  abbrev body : Ask (List ℤ)
  body = samples_by_type h.kind (width - h.wasted) n

  abbrev shifted : List ℤ → List ℤ
  shifted xs = map (shift_up h.wasted) xs

  pub order_too_high : n < order_of h.kind → refused_at 9 ≡ run_at (subframe_after_header n width h) s at
  unfolding subframe_after_header
  order_too_high l = sym (require_fails 9 (λ _. body >>= (λ xs. done (shifted xs))) here (lt-leb _ _ l))

  order-enough : order_of h.kind ≤ n → run_at (body >>= (λ xs. done (shifted xs))) s at ≡ run_at (subframe_after_header n width h) s at
  unfolding subframe_after_header
  order-enough enough = sym (require_holds 9 (λ _. body >>= (λ xs. done (shifted xs))) here (le-leb _ _ enough))

  module _ (enough : order_of h.kind ≤ n) where
    pub after-header_refused : (e : Refusal) (r : Result Place Refusal) → IsErrAnd r (λ y. y ≡ e) → refused_by e ≡ run_at body s at → (left : List ℤ)
        → samples_at r left ≡ run_at (subframe_after_header n width h) s at
    after-header_refused e r i f left = passed_on body s at (λ xs. done (shifted xs)) e r i f left ∙ order-enough enough

    pub after-header-done : {p : Place} {l left : List ℤ} → got_at l p ≡ run_at body s at → left ≡ shifted l → got_at left p ≡ run_at (subframe_after_header n width h) s at
    after-header-done e f = then_done body shifted s at e f ∙ order-enough enough

-- ---- the whole, with zeros on a refusal

module _ (width n : ℕ) (s : List ℕ) (at : Place) where
  pub too_wide : 32 < width → refused_at 11 ≡ subframe_at width n s at
  unfolding subframe_at
  too_wide h = rw (lt-leb width 32 h)

  pub not_wide : width ≤ 32 → run_at (subframe n width) s at ≡ subframe_at width n s at
  unfolding subframe_at
  not_wide h = rw (le-leb width 32 h)
