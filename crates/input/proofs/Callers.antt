-- For callers: what an answer says of the definition's question, a count of the zeros, and a word. Assumes nothing.
use Prim.Native.Nat.{ℕ, ◌+◌, ◌-◌, ◌*◌, ◌%◌, ◌^◌, ◌≤◌, ◌<◌}
use native.Mathlib.Nat.{mod-eq_of_lt, lt_of_lt_of_le, zero-mul, zero-add}
use native.Mathlib.Omega.{arith}
use mathlib.Core.Path.{◌≡◌, refl, ap, sym, ◌∙◌}
use mathlib.Core.Bool.{Bool, true, false, cond}
use mathlib.Core.List.{List}
use mathlib.Core.Logic.{◌⊎◌, inl, inr, ⊎_elim}
use borrow.Author.Tests.{lt-ltb, le-ltb, ltb-true, ltb-false, le-leb, lt-leb, leb-true}
use lib.Dec.{leb, ltb}
use lib.ListN.{length, take, drop, length-drop}
use lib.Pow.{pow_mono}
use lib.Seq.{length-take-le}
use Rattle.reading.specs.declared.Place.{Place}
use Rattle.reading.specs.Readers.{bits, zeros}
use Rattle.reading.specs.Places.{At, got_at, refused_at, short_at, run_at}
use Rattle.reading.specs.Bytes.{bits_of_bytes}
use Rattle.reading.specs.NumbersAsBits.{bits_of, spelt}
use Rattle.reading.proofs.Bits.{bits-bits_of_bytes, length-bits_of_bytes}
use Rattle.reading.proofs.ByteRuns.{bits_below}
use Rattle.reading.proofs.NumbersAsBits.{bits-take, bits-drop, bits_of-spelt, spelt-bits_of}
use Rattle.reading.proofs.Words.{WordAt, taken_word}
use Rattle.error.specs.declared.Refusal.{Refusal}
use Rattle.error.specs.Numbers.{refused_by}
use Rattle.error.proofs.Refusals.{got_not_refused}
use Rattle.input.specs.Answers.{map_at, low64, count, counted_zeros, word_from}

-- ---- read_bits: a number of at most 64 bits is exact

low64-small : (x : At ℕ) → ((v : ℕ) (p : Place) → x ≡ got_at v p → v < 2 ^ 64) → low64 x ≡ x
unfolding low64 map_at
low64-small (got_at v p) h = ap (λ (w : ℕ). got_at w p) (mod-eq_of_lt (h v p refl))
low64-small (refused_at n) h = refl
low64-small short_at h = refl

module _ (n : ℕ) (s : List ℕ) (at : Place) (h : n ≤ 64) where
  pub low64-bits : low64 (run_at (bits n) s at) ≡ run_at (bits n) s at
  low64-bits = low64-small (run_at (bits n) s at) (λ v p e. lt_of_lt_of_le (bits_below n s at e) (pow_mono h))

  -- what a `?` finds of the call's answer, a value or a refusal
  pub read_exact : {x : At ℕ} → x ≡ low64 (run_at (bits n) s at) → x ≡ run_at (bits n) s at
  read_exact e = e ∙ low64-bits

-- ---- read_unary

map_at-got : (f : ℕ → ℕ) (x : At ℕ) {c : ℕ} {p : Place} → got_at c p ≡ map_at f x → (z : ℕ) × (x ≡ got_at z p) × (c ≡ f z)
unfolding map_at
map_at-got f (got_at z q) {c} {p} e = let a : c ≡ f z = cc in let b : q ≡ p = cc in (z, ap (got_at z) b, a)
map_at-got f (refused_at n) e = absurd (let z : ◌≡◌ {A = ℕ} 0 1 = cc in omega arith)
map_at-got f short_at e = absurd (let z : ◌≡◌ {A = ℕ} 0 1 = cc in omega arith)

map_at-refused : (f : ℕ → ℕ) (x : At ℕ) (e : Refusal) → refused_by e ≡ map_at f x → refused_by e ≡ x
unfolding map_at
map_at-refused f (got_at z q) e h = absurd (got_not_refused (f z) q e (sym h))
map_at-refused f (refused_at n) e h = h
map_at-refused f short_at e h = h

module _ (s : List ℕ) (at : Place) where
  pub unary-got : {c : ℕ} {p : Place} → got_at c p ≡ counted_zeros (run_at zeros s at) → (z : ℕ) × (run_at zeros s at ≡ got_at z p) × (c ≡ count z)
  unfolding counted_zeros
  unary-got h = map_at-got count (run_at zeros s at) h

  pub unary-refused : (e : Refusal) → refused_by e ≡ counted_zeros (run_at zeros s at) → refused_by e ≡ run_at zeros s at
  unfolding counted_zeros
  unary-refused e h = map_at-refused count (run_at zeros s at) e h

-- ---- the count of the zeros

pub count-few : {z : ℕ} → z < 2 ^ 32 → count z ≡ z
unfolding count
count-few h = rw (lt-ltb _ _ h)

pub count-many : {z : ℕ} → 2 ^ 32 ≤ z → count z ≡ 2 ^ 32 + z % 2 ^ 32
unfolding count
count-many h = rw (le-ltb _ _ h)

-- fewer than 2 ^ 32 zeros, or not
count-cases : (z : ℕ) → ((z < 2 ^ 32) × (count z ≡ z)) ⊎ ((2 ^ 32 ≤ z) × (count z ≡ 2 ^ 32 + z % 2 ^ 32))
count-cases z = go (ltb z (2 ^ 32)) refl
  where
    go : (b : Bool) → ltb z (2 ^ 32) ≡ b → ((z < 2 ^ 32) × (count z ≡ z)) ⊎ ((2 ^ 32 ≤ z) × (count z ≡ 2 ^ 32 + z % 2 ^ 32))
    go true e = let h = ltb-true _ _ e in inl (h, count-few h)
    go false e = let h = ltb-false _ _ e in inr (h, count-many h)

pub count-below : (z : ℕ) → count z < 2 ^ 33
count-below z = ⊎_elim (λ h. omega arith) (λ h. omega arith) (count-cases z)

pub count_low : (z : ℕ) → count z % 2 ^ 32 ≡ z % 2 ^ 32
count_low z = ⊎_elim (λ h. omega arith) (λ h. omega arith) (count-cases z)

-- a count below 2 ^ 32 is exact
pub count-exact : (z : ℕ) → count z < 2 ^ 32 → z ≡ count z
count-exact z l = ⊎_elim (λ h. omega arith) (λ h. absurd (omega arith)) (count-cases z)

module _ (z m : ℕ) (l : m < 2 ^ 32) where
  pub count_at_most : count z ≤ m → z ≤ m
  count_at_most h = ⊎_elim (λ k. omega arith) (λ k. omega arith) (count-cases z)

  pub at_most-count : z ≤ m → count z ≤ m
  at_most-count h = ⊎_elim (λ k. omega arith) (λ k. omega arith) (count-cases z)

-- zeros may be counted part by part
pub count-more : (z m : ℕ) → count (count z + m) ≡ count (z + m)
count-more z m =
    ⊎_elim (λ h. ap (λ x. count (x + m)) h.1)
    (λ h. ⊎_elim (λ k. absurd (omega arith)) (λ k. ⊎_elim (λ j. absurd (omega arith)) (λ j. omega arith) (count-cases (z + m))) (count-cases (count z + m)))
    (count-cases z)

-- a number below 2 ^ 33 is its own count; from there to 2 ^ 33 + 2 ^ 32, the count is less by 2 ^ 32
pub count_stays : (c : ℕ) → c < 2 ^ 33 → c ≡ count c
count_stays c l = ⊎_elim (λ h. omega arith) (λ h. omega arith) (count-cases c)

pub count-back : (c : ℕ) → 2 ^ 33 ≤ c → c < 2 ^ 33 + 2 ^ 32 → c - 2 ^ 32 ≡ count c
count-back c l h = ⊎_elim (λ k. absurd (omega arith)) (λ k. omega arith) (count-cases c)

-- ---- word_from

module _ (s : List ℕ) (byte : ℕ) where
  abbrev eight : List ℕ
  eight = take 64 (drop (8 * byte) (bits_of_bytes s))

  pub word-short : length s < byte + 8 → 0 ≡ word_from s byte
  unfolding word_from
  word-short h = rw (lt-leb _ _ h)

  pub word-whole : {w : ℕ} → byte + 8 ≤ length s → w < 2 ^ 64 → bits_of 64 w ≡ eight → w ≡ word_from s byte
  unfolding word_from
  word-whole {w} h l e =
      rw (le-leb _ _ h) (sym (ap (spelt 0) (sym e) ∙ spelt-bits_of 0 64 w ∙ ap (λ x. x + w % 2 ^ 64) (zero-mul (2 ^ 64)) ∙ zero-add (w % 2 ^ 64) ∙ mod-eq_of_lt l))

  eight-bits : byte + 8 ≤ length s → bits_of 64 (spelt 0 eight) ≡ eight
  eight-bits h =
      let bs : List ℕ = drop (8 * byte) (bits_of_bytes s) in
      let n : length eight ≡ 64 = length-take-le 64 bs (omega (arith, length-drop (8 * byte) (bits_of_bytes s), length-bits_of_bytes s)) in
      ap (λ k. bits_of k (spelt 0 eight)) (sym n) ∙ bits_of-spelt 0 eight (bits-take 64 bs (bits-drop (8 * byte) (bits_of_bytes s) (bits-bits_of_bytes s)))

  -- a word that is not 0 is that of eight bytes
  pub word_at-byte : {w : ℕ} → w ≡ word_from s byte → 0 < w → (byte + 8 ≤ length s) × WordAt s (8 * byte) 64 w
  unfolding word_from
  word_at-byte {w} e p = go (leb (byte + 8) (length s)) refl e
    where
      go : (b : Bool) → leb (byte + 8) (length s) ≡ b → w ≡ cond b (spelt 0 eight) 0 → (byte + 8 ≤ length s) × WordAt s (8 * byte) 64 w
      go true t f = let h = leb-true _ _ t in (h, taken_word (ap (bits_of 64) f ∙ eight-bits h))
      go false t f = absurd (omega arith)
