-- Readers that do not look back at the bits that they have read: what such a reader gets from a place of s it also gets
-- from that place where s stands after other bytes, and it ends as many bytes on. Assumes nothing.
use Prim.Native.Nat.{ℕ, zero, suc, ◌+◌, ◌*◌, ◌≤◌, ◌<◌}
use native.Mathlib.Omega.{arith}
use mathlib.Core.Path.{◌≡◌, refl, ap, ap₂, sym, ◌∙◌}
use mathlib.Core.Bool.{Bool, true, false, ◌&&◌, cond}
use mathlib.Core.List.{List, [], ◌∷◌, ◌++◌}
use borrow.Author.Tests.{le-leb, lt-leb, leb-true, leb-false}
use lib.Dec.{leb, ltb}
use lib.ListN.{length, drop, length-append}
use lib.Seq.{drop-append-add}
use Rattle.reading.specs.declared.Place.{Place}
use Rattle.reading.specs.Readers.{Question, next_bits, next_zeros, Ask, done, stop, ask, ◌>>=◌, bits, require, Reply, found, cut, bits_from, zeros_from, reply, RunResult, got, refused, short, follow, run}
use Rattle.reading.specs.Bytes.{bits_of_bytes}
use Rattle.reading.specs.Places.{position, place_of, inside, At, got_at, refused_at, short_at, to_at, run_at}
use Rattle.reading.proofs.Bits.{length-bits_of_bytes}
use Rattle.reading.proofs.ByteRuns.{place_is}
use Rattle.reading.proofs.BytePrefixes.{bits_of_bytes_append}

-- ---- such readers

pub data Forward {A : Type 0} : Ask A → Type 0 where
  value : {a : A} → Forward (done a)
  refusal : {n : ℕ} → Forward (stop n)
  question : {q : Question} {k : ℕ → Ask A} → ((v : ℕ) → Forward (k v)) → Forward (ask q k)

pub forward_bind : {A B : Type 0} (k : A → Ask B) {p : Ask A} → Forward p → ((a : A) → Forward (k a)) → Forward (p >>= k)
unfolding ◌>>=◌
forward_bind k (value {a = a}) g = g a
forward_bind k refusal g = refusal
forward_bind k (question h) g = question (λ v. forward_bind k (h v) g)

pub forward_bits : (n : ℕ) → Forward (bits n)
unfolding bits
forward_bits n = question (λ v. value)

pub forward_require : (b : Bool) (n : ℕ) → Forward (require b n)
unfolding require
forward_require true n = value
forward_require false n = refusal

-- ---- on bits

further : ℕ → Reply → Reply
further m (found v j) = found v (m + j)
further m cut = cut

bits-further : (m n acc i : ℕ) (s : List ℕ) → bits_from n acc (m + i) s ≡ further m (bits_from n acc i s)
unfolding bits_from further
bits-further m zero acc i s = refl
bits-further m (suc n) acc i [] = refl
bits-further m (suc n) acc i (b ∷ s) = ap (λ j. bits_from n (acc * 2 + b) j s) (let e : suc (m + i) ≡ m + suc i = omega arith in e) ∙ bits-further m n (acc * 2 + b) (suc i) s

zeros-further : (m z i : ℕ) (s : List ℕ) → zeros_from z (m + i) s ≡ further m (zeros_from z i s)
unfolding zeros_from further
zeros-further m z i [] = refl
zeros-further m z i (zero ∷ s) = ap (λ j. zeros_from (suc z) j s) (let e : suc (m + i) ≡ m + suc i = omega arith in e) ∙ zeros-further m (suc z) (suc i) s
zeros-further m z i (suc b ∷ s) = ap (found z) (let e : suc (m + i) ≡ m + suc i = omega arith in e)

module _ (u s : List ℕ) where
  reply-further : (q : Question) (i : ℕ) → reply q (u ++ s) (length u + i) ≡ further (length u) (reply q s i)
  unfolding reply
  reply-further (next_bits n) i = ap (bits_from n zero (length u + i)) (drop-append-add u s i) ∙ bits-further (length u) n zero i (drop i s)
  reply-further next_zeros i = ap (zeros_from zero (length u + i)) (drop-append-add u s i) ∙ zeros-further (length u) zero i (drop i s)

  run_further : {A : Type 0} → RunResult A → RunResult A
  run_further (got a j) = got a (length u + j)
  run_further (refused n j) = refused n (length u + j)
  run_further short = short

  ask-further : {A : Type 0} (k : ℕ → Ask A) (x : Reply) → ((v j : ℕ) → run (k v) (u ++ s) (length u + j) ≡ run_further (run (k v) s j))
      → follow (further (length u) x) (λ v j. run (k v) (u ++ s) j) ≡ run_further (follow x (λ v j. run (k v) s j))
  unfolding follow further run_further
  ask-further k (found v j) h = h v j
  ask-further k cut h = refl

  run_further_lem : {A : Type 0} {p : Ask A} → Forward p → (i : ℕ) → run p (u ++ s) (length u + i) ≡ run_further (run p s i)
  unfolding run run_further
  run_further_lem value i = refl
  run_further_lem refusal i = refl
  run_further_lem (question {q = q} {k = k} h) i =
      ap (λ x. follow x (λ v j. run (k v) (u ++ s) j)) (reply-further q i) ∙ ask-further k (reply q s i) (λ v j. run_further_lem (h v) j)

-- ---- on bytes

-- a place, and an answer's place, m bytes on
abbrev pub place_further : ℕ → Place → Place
place_further m at = record { byte = m + at.byte; bit = at.bit }

unfoldable pub at_further : {A : Type 0} → ℕ → At A → At A
at_further m (got_at a at) = got_at a (place_further m at)
at_further m (refused_at n) = refused_at n
at_further m short_at = short_at

to_at-further : {A : Type 0} (m : ℕ) (u s : List ℕ) → length u ≡ 8 * m → (x : RunResult A) → to_at (run_further u s x) ≡ at_further m (to_at x)
unfolding to_at at_further run_further
to_at-further m u s e (got a j) = ap (got_at a) (sym (place_is (m + (place_of j).byte) (place_of j).bit (length u + j) (omega arith) (omega arith)))
to_at-further m u s e (refused k j) = refl
to_at-further m u s e short = refl

leb-alike : (a b c d : ℕ) → (a ≤ b → c ≤ d) → (b < a → d < c) → leb c d ≡ leb a b
leb-alike a b c d f g = go (leb a b) refl
  where
    go : (x : Bool) → leb a b ≡ x → leb c d ≡ leb a b
    go true e = le-leb c d (f (leb-true a b e)) ∙ sym e
    go false e = lt-leb c d (g (leb-false a b e)) ∙ sym e

-- THE LAW
pub run_at-further : {A : Type 0} {p : Ask A} → Forward p → (u s : List ℕ) (at : Place)
    → run_at p (u ++ s) (place_further (length u) at) ≡ at_further (length u) (run_at p s at)
unfolding run_at inside at_further
run_at-further {A} {p} f u s at = ap (λ b. cond b (to_at (run p (bits_of_bytes (u ++ s)) (position (place_further (length u) at)))) short_at) alike ∙ go (inside s at)
  where
    alike : inside (u ++ s) (place_further (length u) at) ≡ inside s at
    alike =
        ap (λ b. ltb at.bit 8 && b)
        (leb-alike (position at) (8 * length s) (position (place_further (length u) at)) (8 * length (u ++ s)) (λ h. omega (arith, length-append u s)) (λ h. omega (arith, length-append u s)))

    go : (b : Bool) → cond b (to_at (run p (bits_of_bytes (u ++ s)) (position (place_further (length u) at)))) short_at ≡ at_further (length u) (cond b (to_at (run p (bits_of_bytes s) (position at))) short_at)
    go true =
        let long = length-bits_of_bytes u in
        ap₂ (λ l j. to_at (run p l j)) (bits_of_bytes_append u s) (let e : position (place_further (length u) at) ≡ length (bits_of_bytes u) + position at = omega arith in e)
        ∙ ap to_at (run_further_lem (bits_of_bytes u) (bits_of_bytes s) f (position at)) ∙ to_at-further (length u) (bits_of_bytes u) (bits_of_bytes s) long (run p (bits_of_bytes s) (position at))
    go false = refl
