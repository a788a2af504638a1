-- How many bits a reader takes, and that a question for n bits is answered exactly if they are there. Assumes nothing.
use Prim.Native.Nat.{ℕ, zero, suc, ◌+◌, ◌*◌, ◌%◌, ◌≤◌, ◌<◌}
use native.Mathlib.Omega.{arith}
use mathlib.Core.Path.{◌≡◌, refl, ap, ◌∙◌}
use mathlib.Core.Bool.{Bool, true, false, cond}
use mathlib.Core.List.{List, [], ◌∷◌}
use lib.ListN.{length, drop, length-drop}
use Rattle.reading.specs.declared.Place.{Place}
use Rattle.reading.specs.Readers.{next_bits, Ask, done, stop, ◌>>=◌, bits, require, Reply, found, cut, bits_from, reply}
use Rattle.reading.specs.Bytes.{bits_of_bytes}
use Rattle.reading.specs.Places.{position, place_of, inside, got_at, short_at, run_at}
use Rattle.reading.proofs.Bits.{length-bits_of_bytes, bits_reply, bits_reply-end}
use Rattle.reading.proofs.ByteRuns.{In, inside_in, stays_in, run_at-out, run_at-done, run_at-stop, run_at-ask, of_reply, bind_parts, bits-end}

-- ---- n bits

cut-few : (n acc i : ℕ) (r : List ℕ) → bits_from n acc i r ≡ cut → length r < n
unfolding bits_from
cut-few zero acc i r e = absurd (let z : ◌≡◌ {A = ℕ} 0 1 = cc in omega arith)
cut-few (suc n) acc i [] e = omega arith
cut-few (suc n) acc i (b ∷ r) e = let h = cut-few n (acc * 2 + b) (suc i) r e in omega arith

module _ (n : ℕ) {s : List ℕ} {at : Place} (h : In s at) where
  asked : {x : Reply} → bits_reply s n 0 (position at) ≡ x → run_at (bits n) s at ≡ of_reply x
  unfolding bits reply
  asked e = run_at-ask (next_bits n) h ∙ ap of_reply e

  -- they are there, and the place after them is n bits on, whatever they are ..
  pub bits-there : position at + n ≤ 8 * length s → (v : ℕ) × (run_at (bits n) s at ≡ got_at v (place_of (position at + n)))
  unfolding of_reply
  bits-there l = go (bits_reply s n 0 (position at)) refl
    where
      go : (x : Reply) → bits_reply s n 0 (position at) ≡ x → (v : ℕ) × (run_at (bits n) s at ≡ got_at v (place_of (position at + n)))
      go (found v j) e = (v, asked e ∙ ap (λ i. got_at v (place_of i)) (bits_reply-end s n (position at) e))
      go cut e =
          absurd (omega (arith, cut-few n 0 (position at) (drop (position at) (bits_of_bytes s)) e, length-drop (position at) (bits_of_bytes s), length-bits_of_bytes s))

  -- .. or the input is cut short
  pub bits-short : 8 * length s < position at + n → run_at (bits n) s at ≡ short_at
  unfolding of_reply
  bits-short l = go (bits_reply s n 0 (position at)) refl
    where
      go : (x : Reply) → bits_reply s n 0 (position at) ≡ x → run_at (bits n) s at ≡ short_at
      go (found v j) e = absurd (let f = asked e in omega (arith, bits-end n s at f, (stays_in (bits n) s at f).end))
      go cut e = asked e

-- ---- the bits that a reader takes

-- what was got was read from a place inside the input
pub starts_in : {A : Type 0} (p : Ask A) (s : List ℕ) (at : Place) {a : A} {q : Place} → run_at p s at ≡ got_at a q → In s at
starts_in p s at {a} {q} e = go (inside s at) refl
  where
    go : (b : Bool) → inside s at ≡ b → In s at
    go true t = inside_in s at t
    go false t = absurd (let d = run_at-out p s at t in let z : ◌≡◌ {A = ℕ} 0 1 = cc in omega arith)

-- P holds of their number, whatever the input, wherever the reader gets a value
pub record Takes {A : Type 0} (P : ℕ → Type 0) (p : Ask A) : Type 0 where
  pub taken : (s : List ℕ) (at : Place) (a : A) (q : Place) → run_at p s at ≡ got_at a q → (n : ℕ) × P n × (position q ≡ position at + n)

-- there are n
abbrev pub TakesBits : {A : Type 0} → ℕ → Ask A → Type 0
TakesBits n p = Takes (λ k. k ≡ n) p

pub takes-bits : (n : ℕ) → TakesBits n (bits n)
takes-bits n = record { taken = λ s at a q e. (n, refl, bits-end n s at e) }

pub takes-done : {A : Type 0} {a : A} → TakesBits 0 (done a)
takes-done {a = a} =
    record {
      taken = λ s at b q e. let d = run_at-done a (starts_in (done a) s at e) in let f : at ≡ q = cc in (0, refl, omega (arith, ap position f));
    }

pub takes-stop : {A : Type 0} {P : ℕ → Type 0} {n : ℕ} → Takes {A = A} P (stop n)
takes-stop {A} {n = n} =
    record {
      taken = λ s at b q e. absurd (let d = run_at-stop {A = A} n (starts_in (stop n) s at e) in let z : ◌≡◌ {A = ℕ} 0 1 = cc in omega arith);
    }

pub takes-require : (b : Bool) (n : ℕ) → TakesBits 0 (require b n)
unfolding require
takes-require true n = takes-done
takes-require false n = takes-stop

pub takes_if : {A : Type 0} {P : ℕ → Type 0} (b : Bool) {p q : Ask A} → Takes P p → Takes P q → Takes P (cond b p q)
takes_if true h g = h
takes_if false h g = g

pub takes_weaken : {A : Type 0} {P Q : ℕ → Type 0} {p : Ask A} → ((n : ℕ) → P n → Q n) → Takes P p → Takes Q p
takes_weaken f h =
    record { taken = λ s at a q e. let x = h.taken s at a q e in (x.0, f x.0 x.1, x.2) }

module _ {A B : Type 0} {P Q R : ℕ → Type 0} {p : Ask A} (k : A → Ask B) where
  pub takes_bind : ((m n : ℕ) → P m → Q n → R (m + n)) → Takes P p → ((a : A) → Takes Q (k a)) → Takes R (p >>= k)
  takes_bind f h g = record {
    taken =
        λ s at b q e.
        let x = bind_parts p k s at e in
        let y = h.taken s at x.0 x.1 x.2 in
        let z = (g x.0).taken s x.1 b q x.3 in
        (y.0 + z.0, f y.0 z.0 y.1 z.1, omega arith);
  }

-- m bits, then n
pub takes_then : {A B : Type 0} {m n : ℕ} {p : Ask A} (k : A → Ask B) → TakesBits m p → ((a : A) → TakesBits n (k a)) → TakesBits (m + n) (p >>= k)
takes_then k h g = takes_bind k (λ i j e f. omega arith) h g

-- a reader of whole bytes ends at the bit of a byte where it started
pub same_bit : {A : Type 0} {p : Ask A} → Takes (λ n. n % 8 ≡ 0) p → (s : List ℕ) (at : Place) {a : A} {q : Place} → run_at p s at ≡ got_at a q → q.bit ≡ at.bit
same_bit {p = p} h s at {a} {q} e =
    let x = h.taken s at a q e in omega (arith, x.1, x.2, (starts_in p s at e).bit, (stays_in p s at e).bit)

-- so from the start of a byte it ends at the start of one, which its byte says
pub ends_at_byte : {A : Type 0} {p : Ask A} → Takes (λ n. n % 8 ≡ 0) p → (s : List ℕ) (at : Place) {a : A} {q : Place} → at.bit ≡ 0 → run_at p s at ≡ got_at a q
    → run_at p s at ≡ got_at a (record { byte = q.byte; bit = 0 })
ends_at_byte h s at {a} {q} f e = e ∙ ap (λ (b : ℕ). got_at a (record { byte = q.byte; bit = b })) (same_bit h s at e ∙ f)
