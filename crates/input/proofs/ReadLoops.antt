-- Reading bits and counting zeros, in the first word and turn by turn. Assumes nothing.
use Prim.Native.Nat.{ℕ, suc, ◌+◌, ◌*◌, ◌-◌, ◌/◌, ◌%◌, ◌^◌, ◌≤◌, ◌<◌}
use native.Mathlib.Nat.{add-zero, zero-add, zero-mul, mod-lt, mod-eq_of_lt, lt_of_le_of_lt}
use native.Mathlib.Omega.{arith}
use mathlib.Core.Path.{◌≡◌, refl, ap, ap₂, sym, ◌∙◌}
use mathlib.Core.Bool.{Bool, true, false}
use mathlib.Core.List.{List}
use lib.Count.{count_leading_zeros}
use lib.ListN.{length, get_or}
use lib.Pow.{pow_pos, shr-shr, shr_le}
use Rattle.reading.specs.declared.Place.{Place}
use Rattle.reading.specs.Readers.{bits, zeros, next_bits, next_zeros, reply, bits_from}
use Rattle.reading.specs.Places.{position, place_of, inside, got_at, short_at, run_at}
use Rattle.reading.proofs.Bits.{bits_reply, zeros_reply, bits_out, zeros-out}
use Rattle.reading.proofs.Words.{WordAt, byte_at, word-middle, middle-shifted, bits_pass, zeros_pass, one-ends, leading_one, leading_none}
use Rattle.reading.proofs.ByteRuns.{In, inside_in, place-position, position-place}
use Rattle.input.specs.Answers.{low64, count, counted_zeros}
use Rattle.input.proofs.MappedReplies.{map_reply, map_reply-found, map_reply-cut, ask_in, ask_out}
use Rattle.input.proofs.AppendedBits.{word_append}
use Rattle.input.proofs.Callers.{count-more, count-few, count-below}

-- the place m bits later is in the input too
later_in : {s : List ℕ} {p q : Place} (m : ℕ) → In s p → p.byte < length s → p.bit + m ≤ 8 → q ≡ place_of (position p + m) → In s q
later_in {s} {p} m i l h e = rw e (record { bit = omega arith; end = omega arith })

later-position : (p : Place) (m : ℕ) {q : Place} → q ≡ place_of (position p + m) → position q ≡ position p + m
later-position p m e = ap position e ∙ place-position (position p + m)

-- the m bits of a byte that the code takes in one turn
abbrev pub bits_in : List ℕ → Place → ℕ → ℕ
bits_in s p m = get_or s p.byte 0 / 2 ^ (8 - (p.bit + m)) % 2 ^ m

-- ---- a number with `left` bits still to be read: the bits so far make `all`, and `acc` is its low 64 bits
pub record Unread (s : List ℕ) (n : ℕ) (p₀ : Place) (left acc : ℕ) (p : Place) : Type 0 where
  pub place : In s p
  pub all : ℕ
  pub word : acc ≡ all % 2 ^ 64
  pub same : low64 (run_at (bits n) s p₀) ≡ map_reply (λ v. v % 2 ^ 64) (bits_reply s left all (position p))

pub begin : (s : List ℕ) (n : ℕ) (p : Place) → In s p → Unread s n p n 0 p
unfolding low64 bits reply
begin s n p i = record { place = i; all = 0; word = refl; same = ask_in (λ v. v % 2 ^ 64) (next_bits n) i }

module _ (s : List ℕ) (n : ℕ) (p₀ : Place) (left acc : ℕ) (p : Place) (inv : Unread s n p₀ left acc p) where
  pub out : 0 < left → length s ≤ p.byte → short_at ≡ low64 (run_at (bits n) s p₀)
  out h l =
      sym
      (inv.same
      ∙ ap (map_reply (λ v. v % 2 ^ 64))
      (ap (λ k. bits_reply s k inv.all (position p)) (let e : left ≡ suc (left - 1) = omega arith in e) ∙ bits_out s (position p) (omega arith) (left - 1) inv.all)
      ∙ map_reply-cut (λ v. v % 2 ^ 64))

  pub end : left ≤ 0 → got_at acc p ≡ low64 (run_at (bits n) s p₀)
  unfolding bits_from
  end h =
      sym
      (inv.same ∙ ap (λ k. map_reply (λ v. v % 2 ^ 64) (bits_reply s k inv.all (position p))) (let e : left ≡ 0 = omega arith in e)
      ∙ map_reply-found (λ v. v % 2 ^ 64) inv.all (position p) ∙ ap₂ got_at (sym inv.word) (position-place p inv.place.bit))

  module _ (m : ℕ) {x : ℕ} (h : m ≤ left) (b : p.bit + m ≤ 8) (l : p.byte < length s) (ex : x ≡ bits_in s p m) where
    grow : (acc * 2 ^ m) % 2 ^ 64 + x ≡ (inv.all * 2 ^ m + x) % 2 ^ 64
    grow = rw inv.word (word_append 64 inv.all m (omega arith) (rw ex (mod-lt _ (pow_pos m))))

    pub fits : (acc * 2 ^ m) % 2 ^ 64 + x < 2 ^ 64
    fits = rw grow (mod-lt _ (pow_pos 64))

    pub step : {q : Place} → q ≡ place_of (position p + m) → Unread s n p₀ (left - m) ((acc * 2 ^ m) % 2 ^ 64 + x) q
    step {q} eq = record {
      place = later_in m inv.place l b eq;
      all = inv.all * 2 ^ m + x;
      word = grow;
      same =
          inv.same
          ∙ ap (map_reply (λ v. v % 2 ^ 64))
          (ap (λ k. bits_reply s k inv.all (position p)) (let e : left ≡ m + (left - m) = omega arith in e)
          ∙ bits_pass m (left - m) inv.all (word-middle p.bit m b (byte_at s p.byte l))
          ∙ ap₂ (bits_reply s (left - m)) (ap (λ y. inv.all * 2 ^ m + y) (sym ex)) (sym (later-position p m eq)));
    }

-- ---- zeros, of which `zs` were read
pub record Passed (s : List ℕ) (p₀ : Place) (c : ℕ) (p : Place) : Type 0 where
  pub place : In s p
  pub zs : ℕ
  pub counts : c ≡ count zs
  pub same : counted_zeros (run_at zeros s p₀) ≡ map_reply count (zeros_reply s zs (position p))

pub begin-zeros : (s : List ℕ) (p : Place) → In s p → Passed s p 0 p
unfolding counted_zeros zeros reply
begin-zeros s p i = record { place = i; zs = 0; counts = sym (count-few (omega arith)); same = ask_in count next_zeros i }

module _ (s : List ℕ) (p₀ : Place) (c : ℕ) (p : Place) (inv : Passed s p₀ c p) where
  pub below : c < 2 ^ 33
  below = rw inv.counts (count-below inv.zs)

  pub out-zeros : length s ≤ p.byte → short_at ≡ counted_zeros (run_at zeros s p₀)
  out-zeros l = sym (inv.same ∙ ap (map_reply count) (zeros-out s (position p) (omega arith) inv.zs) ∙ map_reply-cut count)

  -- a word of n bits, from the place's byte on; q is the number of its leading zeros, without the bits before the place
  module _ {n w q : ℕ} (l : p.bit ≤ n) (h : WordAt s (8 * p.byte) n w) (e : q ≡ count_leading_zeros n ((w * 2 ^ p.bit) % 2 ^ n)) where
    -- the run ends in it
    pub end-zeros : q < n → got_at (count (c + q)) (place_of (position p + (q + 1))) ≡ counted_zeros (run_at zeros s p₀)
    end-zeros k =
        let d : position p + suc q ≡ position p + (q + 1) = omega arith in
        sym
        (inv.same ∙ ap (map_reply count) (one-ends q inv.zs (leading_one l h e k)) ∙ map_reply-found count (inv.zs + q) (position p + suc q)
        ∙ ap₂ got_at (sym (rw inv.counts (count-more inv.zs q))) (ap place_of d))

    -- the run goes through it
    pub step-zeros : {r : ℕ} {p' : Place} → n ≤ q → 8 * p.byte + n ≤ 8 * length s → r ≡ count (c + (n - p.bit)) → p'.bit ≡ 0 → position p' ≡ 8 * p.byte + n
        → Passed s p₀ r p'
    step-zeros {r} {p'} k f er eb ep =
        let m : ℕ = n - p.bit in
        let d : position p + m ≡ position p' = omega arith in
        record {
          place = record { bit = omega arith; end = omega arith };
          zs = inv.zs + m;
          counts = er ∙ rw inv.counts (count-more inv.zs m);
          same = inv.same ∙ ap (map_reply count) (zeros_pass m inv.zs (leading_none l h e k) ∙ ap (zeros_reply s (inv.zs + m)) d);
        }

-- no zeros are read after the last byte
pub unary-out : (s : List ℕ) (p : Place) → length s ≤ p.byte → short_at ≡ counted_zeros (run_at zeros s p)
unfolding counted_zeros
unary-out s p l = go (inside s p) refl
  where
    go : (b : Bool) → inside s p ≡ b → short_at ≡ counted_zeros (run_at zeros s p)
    go true e = out-zeros s p 0 p (begin-zeros s p (inside_in s p e)) l
    go false e = sym (ask_out count zeros s p e)

-- ---- the first word

module _ (s : List ℕ) (at : Place) (w : ℕ) (b : at.bit < 8) (l : at.byte + 8 ≤ length s) (h : WordAt s (8 * at.byte) 64 w) where
  here : In s at
  here = record { bit = b; end = omega arith }

  pub unary_of_word : {q : ℕ} → q ≡ count_leading_zeros 64 ((w * 2 ^ at.bit) % 2 ^ 64) → q < 64
      → got_at (count (0 + q)) (place_of (position at + (q + 1))) ≡ counted_zeros (run_at zeros s at)
  unary_of_word e k = end-zeros s at 0 at (begin-zeros s at here) (omega arith) h e k

  pub bits_of-word : (n : ℕ) {p : Place} → n ≤ 56 → p ≡ place_of (position at + n) → got_at ((w * 2 ^ at.bit) % 2 ^ 64 / 2 / 2 ^ (63 - n)) p ≡ low64 (run_at (bits n) s at)
  unfolding low64 bits reply bits_from
  bits_of-word n {p} k ep =
      let a : ℕ = at.bit in
      let v : ℕ = (w * 2 ^ a) % 2 ^ 64 in
      let x : ℕ = w / 2 ^ (64 - (a + n)) % 2 ^ n in
      let d : 1 + (63 - n) ≡ 64 - n = omega arith in
      let f : v / 2 / 2 ^ (63 - n) ≡ x = shr-shr v 1 (63 - n) ∙ ap (λ y. v / 2 ^ y) d ∙ middle-shifted 64 a n w (omega arith) in
      let small : v / 2 / 2 ^ (63 - n) < 2 ^ 64 = lt_of_le_of_lt (shr_le (v / 2) (63 - n)) (lt_of_le_of_lt (shr_le v 1) (mod-lt (w * 2 ^ a) (pow_pos 64))) in
      let g : 0 * 2 ^ n + x ≡ v / 2 / 2 ^ (63 - n) = ap (λ y. y + x) (zero-mul (2 ^ n)) ∙ zero-add x ∙ sym f in
      sym
      (ask_in (λ y. y % 2 ^ 64) (next_bits n) here
      ∙ ap (map_reply (λ y. y % 2 ^ 64))
      (ap (λ m. bits_reply s m 0 (position at)) (sym (add-zero n)) ∙ bits_pass n 0 0 (word-middle a n (omega arith) h))
      ∙ map_reply-found (λ y. y % 2 ^ 64) (0 * 2 ^ n + x) (position at + n) ∙ ap₂ got_at (ap (λ y. y % 2 ^ 64) g ∙ mod-eq_of_lt small) (sym ep))
