-- A sample and a Rice-coded residual, by what was read of each. Assumes nothing.
use Prim.Native.Nat.{ℕ, ◌+◌, ◌*◌, ◌/◌, ◌%◌, ◌^◌, ◌≤◌, ◌<◌}
use native.Mathlib.Nat.{lt_of_lt_of_le, mul-add-mod_self_right, add_assoc, mul_assoc, mul_comm, add-mul, div-add-mod'}
use native.Mathlib.Omega.{arith}
use mathlib.Core.Path.{◌≡◌, ap, sym, ◌∙◌}
use mathlib.Core.List.{List}
use lib.Arith.{digits_lt}
use lib.IntN.{ℤ}
use lib.Pow.{pow_mono, pow-add}
use mir.Syntax.{w32, w64}
use mir.Val.{SFits, to_z, of_z}
use mir.Facts.{to_z-of_z}
use Rattle.reading.specs.declared.Place.{Place}
use Rattle.reading.specs.Readers.{Ask, done, ◌>>=◌, bits, zeros}
use Rattle.reading.specs.Places.{got_at, run_at}
use Rattle.reading.proofs.ByteRuns.{bind_got_lem, bits_below}
use Rattle.error.specs.declared.Refusal.{Refusal}
use Rattle.error.specs.Numbers.{refused_by}
use Rattle.error.proofs.Refusals.{bind_refusal}
use Rattle.input.specs.Answers.{low64, count, counted_zeros}
use Rattle.input.proofs.Callers.{read_exact, unary-got, unary-refused, count_low, count-below}
use Rattle.signed.specs.Extend.{sign_extend}
use Rattle.signed.proofs.SignExtension.{extend-signed}
use Rattle.rfc9639.specs.Integers.{signed, wrapped, signed_bits}
use Rattle.rfc9639.specs.Residual.{folded, unfolded, rice}
use Rattle.rfc9639.proofs.Widths.{signed-fits, fits-mono, wrapped_same}
use Rattle.subframe.proofs.SliceParts.{bind_done}

-- ---- a sample

-- the sign extension of w bits fits 32
pub extended-low32 : (w v : ℕ) → w ≤ 32 → v < 2 ^ w → wrapped 32 (sign_extend w v) ≡ signed w v
extended-low32 w v h l =
    ap (wrapped 32) (extend-signed w v (omega arith) l) ∙ wrapped_same 32 (signed w v) (omega arith) (fits-mono h (signed-fits w v l))

module _ (w : ℕ) (s : List ℕ) (at : Place) (h : w ≤ 32) where
  -- the code passes a signed value by its bits
  pub sample-got : {v : ℕ} {q : Place} {x z : ℤ} → got_at v q ≡ low64 (run_at (bits w) s at) → x ≡ sign_extend w v → SFits w64 x → z ≡ wrapped 32 (to_z w64 (of_z w64 x)) → SFits w32 z
      → got_at (to_z w32 (of_z w32 z)) q ≡ run_at (signed_bits w) s at
  unfolding signed_bits
  sample-got {v} {q} {x} {z} e f fx g fz =
      let got = sym (read_exact w s at (omega arith) e) in
      sym
      (bind_done (bits w) (signed w) s at got
      ∙ ap (λ y. got_at y q) (sym (to_z-of_z fz ∙ g ∙ ap (wrapped 32) (to_z-of_z fx ∙ f) ∙ extended-low32 w v h (bits_below w s at got))))

-- ---- a residual

pub folded_fits : (q r k : ℕ) → q < 2 ^ 33 → k ≤ 31 → r < 2 ^ k → q * 2 ^ k + r < 2 ^ 64
folded_fits q r k a h b = lt_of_lt_of_le (digits_lt a b) (rw (← pow-add 2 33 k) (pow_mono {i = 33 + k} {j = 64} (omega arith)))

-- the quotient's low bits are enough
low-folded : (q p r m : ℕ) → (q % m * p + r) % m ≡ (q * p + r) % m
low-folded q p r m =
    sym (mul-add-mod_self_right (q / m * p) m (q % m * p + r)) ∙ ap (λ x. x % m) (sym (add_assoc (q / m * p * m) (q % m * p) r) ∙ ap (λ x. x + r) whole)
  where
    whole : q / m * p * m + q % m * p ≡ q * p
    whole =
        ap (λ x. x + q % m * p) (mul_assoc (q / m) p m ∙ ap (λ x. q / m * x) (mul_comm p m) ∙ sym (mul_assoc (q / m) m p))
        ∙ sym (add-mul (q / m * m) (q % m) p) ∙ ap (λ x. x * p) (div-add-mod' q m)

folded-count : (k z r : ℕ) → folded k (count z) r ≡ folded k z r
unfolding folded
folded-count k z r =
    sym (low-folded (count z) (2 ^ k) r (2 ^ 32)) ∙ ap (λ x. (x * 2 ^ k + r) % 2 ^ 32) (count_low z) ∙ low-folded z (2 ^ k) r (2 ^ 32)

remainder_then : ℕ → ℕ → Ask ℤ
remainder_then k q = bits k >>= (λ r. done (unfolded (folded k q r)))

-- by the zeros and the remainder that the definition reads
pub rice-parts : (k : ℕ) (s : List ℕ) (at : Place) {q r : ℕ} {p next : Place} → run_at zeros s at ≡ got_at q p → run_at (bits k) s p ≡ got_at r next
    → run_at (rice k) s at ≡ got_at (unfolded (folded k q r)) next
unfolding rice remainder_then
rice-parts k s at {q} {p = p} high low = bind_got_lem zeros s at (remainder_then k) high ∙ bind_done (bits k) (λ r. unfolded (folded k q r)) s p low

module _ (k : ℕ) (s : List ℕ) (at : Place) (h : k ≤ 31) where
  pub quotient_refused : (e : Refusal) → refused_by e ≡ counted_zeros (run_at zeros s at) → refused_by e ≡ run_at (rice k) s at
  unfolding rice remainder_then
  quotient_refused e high = sym (bind_refusal zeros s at (remainder_then k) e (sym (unary-refused s at e high)))

  module _ {q : ℕ} {p : Place} (high : got_at q p ≡ counted_zeros (run_at zeros s at)) where
    pub quotient_below : q < 2 ^ 33
    quotient_below = let got = unary-got s at high in omega (arith, got.2, count-below got.0)

    pub remainder_refused : (e : Refusal) → refused_by e ≡ low64 (run_at (bits k) s p) → refused_by e ≡ run_at (rice k) s at
    unfolding rice remainder_then
    remainder_refused e low =
        let got = unary-got s at high in
        sym
        (bind_got_lem zeros s at (remainder_then k) got.1
        ∙ bind_refusal (bits k) s p (λ r. done (unfolded (folded k got.0 r))) e (sym (read_exact k s p (omega arith) low)))

    module _ {v : ℕ} {next : Place} (low : got_at v next ≡ low64 (run_at (bits k) s p)) where
      remainder_got : run_at (bits k) s p ≡ got_at v next
      remainder_got = sym (read_exact k s p (omega arith) low)

      pub remainder_below : v < 2 ^ k
      remainder_below = bits_below k s p remainder_got

      pub rice-got : {n : ℕ} {z : ℤ} → n ≡ folded k q v → z ≡ unfolded n → SFits w32 z → got_at (to_z w32 (of_z w32 z)) next ≡ run_at (rice k) s at
      rice-got {n} {z} en ez fz =
          let got = unary-got s at high in
          sym
          (rice-parts k s at got.1 remainder_got
          ∙ ap (λ y. got_at y next) (sym (to_z-of_z fz ∙ ez ∙ ap unfolded (en ∙ ap (λ x. folded k x v) got.2 ∙ folded-count k got.0 v))))
