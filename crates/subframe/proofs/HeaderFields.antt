-- A subframe's header, and a precision and shift, question by question as the code reads them. Assumes nothing.
use Prim.Native.Nat.{ℕ, ◌+◌, ◌^◌, ◌≤◌, ◌<◌}
use native.Mathlib.Omega.{arith}
use mathlib.Core.Path.{◌≡◌, refl, ap, sym, ◌∙◌, subst}
use mathlib.Core.Bool.{Bool, true, false, ◌&&◌}
use mathlib.Core.List.{List}
use borrow.Author.Tests.{eq-eqb, ne_eqb, lt-ltb, le-ltb, le-leb, lt-leb, leb-true, leb-false}
use lib.Dec.{leb, ltb, eqb}
use Rattle.reading.specs.declared.Place.{Place}
use Rattle.std.specs.Prelude.{if◌then◌else◌}
use Rattle.reading.specs.Readers.{Ask, done, stop, ◌>>=◌, ◌>>◌, bits, zeros, require}
use Rattle.reading.specs.Places.{got_at, refused_at, run_at}
use Rattle.reading.proofs.ByteRuns.{stays_in, run_at-done, run_at-stop, bind_got_lem, require_holds, require_fails, bits_below}
use Rattle.reading.proofs.Postconditions.{Holds, refusal}
use Rattle.input.specs.Answers.{count}
use Rattle.input.proofs.Callers.{count_at_most, at_most-count, count-few}
use Rattle.error.specs.declared.Refusal.{Refusal}
use Rattle.error.proofs.Refusals.{bind_refusal}
use Rattle.error.specs.Numbers.{number_of, refused_by}
use Rattle.rfc9639.specs.declared.SubframeType.{SubframeType}
use Rattle.rfc9639.specs.declared.SubframeHeader.{SubframeHeader}
use Rattle.rfc9639.specs.Subframe.{subframe_type, wasted_bits, subframe_header, checked_wasted_bits, kind_and_wasted, quantization}
use Rattle.subframe.specs.Private.{Quantization, Orderly}
use Rattle.subframe.proofs.SliceParts.{bind_done}
use Rattle.subframe.proofs.HeaderBounds.{holds_type}

-- ---- the wasted bits

wasted_test-many : (k width : ℕ) → 31 < k → (leb k 31 && ltb k width) ≡ false
wasted_test-many k width h = rw (lt-leb _ _ h)

wasted_test-wide : (k width : ℕ) → width ≤ k → (leb k 31 && ltb k width) ≡ false
wasted_test-wide k width h = go (leb k 31)
  where
    go : (b : Bool) → (b && ltb k width) ≡ false
    go true = le-ltb _ _ h
    go false = refl

-- what the definition does after the flag, and after the count

after_set_flag : Ask ℕ
after_set_flag = zeros >>= (λ z. done (z + 1))

after_flag : ℕ → Ask ℕ
after_flag v = if eqb v 0 then done 0 else after_set_flag

check_wasted : ℕ → ℕ → Ask ℕ
check_wasted width k = require (leb k 31 && ltb k width) 9 >> done k

module _ (width : ℕ) (s : List ℕ) (at : Place) where
  checked_then : {k : ℕ} {q : Place} → run_at wasted_bits s at ≡ got_at k q → run_at (checked_wasted_bits width) s at ≡ run_at (check_wasted width k) s q
  unfolding checked_wasted_bits check_wasted
  checked_then e = bind_got_lem wasted_bits s at (check_wasted width) e

  checked-keeps : {k : ℕ} {q : Place} → run_at wasted_bits s at ≡ got_at k q → k ≤ 31 → k < width → run_at (checked_wasted_bits width) s at ≡ got_at k q
  unfolding check_wasted
  checked-keeps {k} {q} e l m =
      let i = stays_in wasted_bits s at e in
      checked_then e ∙ require_holds 9 (λ _. done k) i (rw (le-leb k 31 l) (lt-ltb k width m)) ∙ run_at-done k i

  checked-refuses : {k : ℕ} {q : Place} → run_at wasted_bits s at ≡ got_at k q → (leb k 31 && ltb k width) ≡ false → run_at (checked_wasted_bits width) s at ≡ refused_at 9
  unfolding check_wasted
  checked-refuses {k} {q} e f = checked_then e ∙ require_fails 9 (λ _. done k) (stays_in wasted_bits s at e) f

  checked-refusal : (x : Refusal) → run_at wasted_bits s at ≡ refused_by x → run_at (checked_wasted_bits width) s at ≡ refused_by x
  unfolding checked_wasted_bits check_wasted
  checked-refusal x e = bind_refusal wasted_bits s at (check_wasted width) x e

  pub flag_refused : (x : Refusal) → refused_by x ≡ run_at (bits 1) s at → refused_by x ≡ run_at (checked_wasted_bits width) s at
  unfolding wasted_bits
  flag_refused x e = sym (checked-refusal x (bind_refusal (bits 1) s at _ x (sym e)))

  module _ {v : ℕ} {p : Place} (e : run_at (bits 1) s at ≡ got_at v p) where
    flag_clear : v ≡ 0 → run_at wasted_bits s at ≡ got_at 0 p
    unfolding wasted_bits after_set_flag after_flag
    flag_clear f = bind_got_lem (bits 1) s at after_flag e ∙ ap (λ b. run_at (if b then done 0 else after_set_flag) s p) (eq-eqb v 0 f) ∙ run_at-done 0 (stays_in (bits 1) s at e)

    flag-set : (v ≡ 0 → ⊥) → run_at wasted_bits s at ≡ run_at after_set_flag s p
    unfolding wasted_bits after_set_flag after_flag
    flag-set f = bind_got_lem (bits 1) s at after_flag e ∙ ap (λ b. run_at (if b then done 0 else after_set_flag) s p) (ne_eqb v 0 f)

    -- no wasted bits
    pub no_wasted_bits : v ≡ 0 → (width ≡ 0 → ⊥) → run_at (checked_wasted_bits width) s at ≡ got_at 0 p
    no_wasted_bits f g = checked-keeps (flag_clear f) (omega arith) (omega arith)

    pub no_width_left : v ≡ 0 → width ≡ 0 → run_at (checked_wasted_bits width) s at ≡ refused_at 9
    no_width_left f g = checked-refuses (flag_clear f) (wasted_test-wide 0 width (omega arith))

    module _ (on : v ≡ 0 → ⊥) where
      pub unary-run-refused : (x : Refusal) → refused_by x ≡ run_at zeros s p → refused_by x ≡ run_at (checked_wasted_bits width) s at
      unfolding after_set_flag
      unary-run-refused x g = sym (checked-refusal x (flag-set on ∙ bind_refusal zeros s p _ x (sym g)))

      -- the code's count of the zeros is exact up to 30
      module _ {z c : ℕ} {q : Place} (g : run_at zeros s p ≡ got_at z q) (o : c ≡ count z) where
        wasted_counted : run_at wasted_bits s at ≡ got_at (z + 1) q
        unfolding after_set_flag
        wasted_counted = flag-set on ∙ bind_done zeros (λ x. x + 1) s p g

        zeros-exact : c ≤ 30 → z ≡ c
        zeros-exact l = let h = count_at_most z 30 (omega arith) (omega arith) in omega (arith, count-few {z = z} (omega arith))

        pub unary-run-too_long : 30 < c → run_at (checked_wasted_bits width) s at ≡ refused_at 9
        unary-run-too_long l = checked-refuses wasted_counted (go (leb (z + 1) 31) refl)
          where
            go : (b : Bool) → leb (z + 1) 31 ≡ b → (leb (z + 1) 31 && ltb (z + 1) width) ≡ false
            go true t = absurd (let h = at_most-count z 30 (omega arith) (omega (arith, leb-true (z + 1) 31 t)) in omega arith)
            go false t = wasted_test-many (z + 1) width (leb-false _ _ t)

        pub unary-run-too_wide : c ≤ 30 → width ≤ c + 1 → run_at (checked_wasted_bits width) s at ≡ refused_at 9
        unary-run-too_wide l h = checked-refuses wasted_counted (wasted_test-wide (z + 1) width (omega (arith, zeros-exact l)))

        pub unary-run-kept : c ≤ 30 → c + 1 < width → run_at (checked_wasted_bits width) s at ≡ got_at (c + 1) q
        unary-run-kept l h = let f = zeros-exact l in checked-keeps wasted_counted (omega arith) (omega arith) ∙ ap (λ k. got_at (k + 1) q) f

-- ---- the type, then the wasted bits

-- a type is refused for a reserved code alone
stopped : {A : Type 0} {R : ℕ → Type 0} {P : A → Type 0} {n : ℕ} → Holds R P (stop n) → R n
stopped (refusal h) = h

reserved-type : (code n : ℕ) → code < 2 ^ 6 → stop n ≡ subframe_type code → n ≡ 4
reserved-type code n h e = stopped {P = Orderly} (subst (Holds (λ m. m ≡ 4) Orderly) (sym e) (holds_type code h))

header_of : SubframeType → ℕ → SubframeHeader
header_of kind wasted = record { kind = kind; wasted = wasted }

module _ (width : ℕ) where
  after_kind : SubframeType → Ask SubframeHeader
  after_kind kind = checked_wasted_bits width >>= (λ k. done (header_of kind k))

  after_code : ℕ → Ask SubframeHeader
  after_code code = subframe_type code >>= after_kind

  after_zero_bit : ℕ → Ask SubframeHeader
  after_zero_bit v = require (eqb v 0) 4 >> kind_and_wasted width

  module _ (s : List ℕ) (at : Place) where
    module _ {code : ℕ} {p : Place} (e : run_at (bits 6) s at ≡ got_at code p) where
      kind_then : {x : Ask SubframeType} → x ≡ subframe_type code → run_at (kind_and_wasted width) s at ≡ run_at (x >>= after_kind) s p
      unfolding kind_and_wasted after_code after_kind header_of
      kind_then f = bind_got_lem (bits 6) s at after_code e ∙ ap (λ t. run_at (t >>= after_kind) s p) (sym f)

      pub type_refused : (x : Refusal) → stop (number_of x) ≡ subframe_type code → refused_by x ≡ run_at (kind_and_wasted width) s at
      unfolding ◌>>=◌
      type_refused x f =
          let reserved : number_of x ≡ 4 = reserved-type code (number_of x) (bits_below 6 s at e) f in
          rw reserved (sym (kind_then (ap stop (sym reserved) ∙ f) ∙ run_at-stop 4 (stays_in (bits 6) s at e)))

      module _ {kind : SubframeType} (f : done kind ≡ subframe_type code) where
        known_kind : run_at (kind_and_wasted width) s at ≡ run_at (checked_wasted_bits width >>= (λ k. done (header_of kind k))) s p
        unfolding ◌>>=◌ after_kind
        known_kind = kind_then f

        pub kind_got : {k : ℕ} {q : Place} → run_at (checked_wasted_bits width) s p ≡ got_at k q → run_at (kind_and_wasted width) s at ≡ got_at (record { kind = kind; wasted = k }) q
        unfolding header_of
        kind_got g = known_kind ∙ bind_done (checked_wasted_bits width) (header_of kind) s p g

        pub kind_stops : (x : Refusal) → run_at (checked_wasted_bits width) s p ≡ refused_by x → run_at (kind_and_wasted width) s at ≡ refused_by x
        kind_stops x g = known_kind ∙ bind_refusal (checked_wasted_bits width) s p _ x g

    -- ---- the zero bit before them

    module _ {v : ℕ} {p : Place} (e : run_at (bits 1) s at ≡ got_at v p) where
      after_zero_bit_lem : run_at (subframe_header width) s at ≡ run_at (after_zero_bit v) s p
      unfolding subframe_header after_zero_bit
      after_zero_bit_lem = bind_got_lem (bits 1) s at after_zero_bit e

      pub zero_bit-set : (v ≡ 0 → ⊥) → run_at (subframe_header width) s at ≡ refused_at 4
      unfolding after_zero_bit
      zero_bit-set f = after_zero_bit_lem ∙ require_fails 4 (λ _. kind_and_wasted width) (stays_in (bits 1) s at e) (ne_eqb v 0 f)

      pub zero_bit_clear : v ≡ 0 → run_at (subframe_header width) s at ≡ run_at (kind_and_wasted width) s p
      unfolding after_zero_bit
      zero_bit_clear f = after_zero_bit_lem ∙ require_holds 4 (λ _. kind_and_wasted width) (stays_in (bits 1) s at e) (eq-eqb v 0 f)

-- ---- the precision and the shift

after_shift : ℕ → ℕ → Ask Quantization
after_shift precision shift = require (ltb shift 16) 8 >> done (precision + 1, shift)

module _ (s : List ℕ) (at : Place) where
  module _ {precision : ℕ} {p : Place} (e : run_at (bits 4) s at ≡ got_at precision p) where
    pub precision_reserved : precision ≡ 15 → run_at quantization s at ≡ refused_at 4
    unfolding quantization
    precision_reserved f = bind_got_lem (bits 4) s at _ e ∙ require_fails 4 _ (stays_in (bits 4) s at e) (le-ltb precision 15 (omega arith))

    module _ (l : precision < 15) where
      after_precision : run_at quantization s at ≡ run_at (bits 5 >>= after_shift precision) s p
      unfolding quantization after_shift
      after_precision = bind_got_lem (bits 4) s at _ e ∙ require_holds 4 (λ _. bits 5 >>= after_shift precision) (stays_in (bits 4) s at e) (lt-ltb precision 15 l)

      pub shift_refused : (x : Refusal) → refused_by x ≡ run_at (bits 5) s p → refused_by x ≡ run_at quantization s at
      shift_refused x g = sym (after_precision ∙ bind_refusal (bits 5) s p (after_shift precision) x (sym g))

      module _ {shift : ℕ} {q : Place} (g : run_at (bits 5) s p ≡ got_at shift q) where
        after_shift_lem : run_at quantization s at ≡ run_at (after_shift precision shift) s q
        after_shift_lem = after_precision ∙ bind_got_lem (bits 5) s p (after_shift precision) g

        pub shift_negative : 16 ≤ shift → run_at quantization s at ≡ refused_at 8
        unfolding after_shift
        shift_negative h = after_shift_lem ∙ require_fails 8 (λ _. done (precision + 1, shift)) (stays_in (bits 5) s p g) (le-ltb shift 16 h)

        pub quantization-known : shift < 16 → run_at quantization s at ≡ got_at (precision + 1, shift) q
        unfolding after_shift
        quantization-known h =
            let i = stays_in (bits 5) s p g in
            after_shift_lem ∙ require_holds 8 (λ _. done (precision + 1, shift)) i (lt-ltb shift 16 h) ∙ run_at-done (precision + 1, shift) i
