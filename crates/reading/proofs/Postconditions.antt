-- Postconditions: what holds of every value that a reader gets and of every refusal, on any input. Assumes nothing.
use Prim.Native.Nat.{ℕ, zero, suc, ◌+◌, ◌^◌, ◌<◌}
use mathlib.Core.Path.{◌≡◌, refl, ap, ap₂, ◌∙◌}
use mathlib.Core.Bool.{Bool, true, false, cond}
use mathlib.Core.List.{List, [], ◌∷◌, ◌++◌, map}
use lib.ListN.{length, take, drop, length-append}
use Rattle.reading.specs.declared.Place.{Place}
use Rattle.reading.specs.Readers.{next_bits, next_zeros, Ask, done, stop, ask, seen, ◌>>=◌, bits, zeros, passed, require, many, each, Reply, found, cut, bits_from, reply, RunResult, follow, run}
use Rattle.reading.specs.Bytes.{bits_of_bytes}
use Rattle.reading.specs.Places.{position, inside, At, got_at, refused_at, short_at, to_at, run_at}
use Rattle.reading.proofs.Bits.{bits_reply-below}

-- R holds of each refusal and P of each value. It is read off the tree: n bits are a number below 2 ^ n, and nothing is
-- known about a count of zeros or about the bits read so far.
pub data Holds {A : Type 0} (R : ℕ → Type 0) (P : A → Type 0) : Ask A → Type 0 where
  value : {a : A} → P a → Holds R P (done a)
  refusal : {n : ℕ} → R n → Holds R P (stop n)
  any_bits : {n : ℕ} {k : ℕ → Ask A} → ((v : ℕ) → v < 2 ^ n → Holds R P (k v)) → Holds R P (ask (next_bits n) k)
  any_zeros : {k : ℕ → Ask A} → ((v : ℕ) → Holds R P (k v)) → Holds R P (ask next_zeros k)
  any_seen : {k : List ℕ → Ask A} → ((l : List ℕ) → Holds R P (k l)) → Holds R P (seen k)

-- ---- how it is proved for a reader

module _ {A B : Type 0} {R : ℕ → Type 0} {Q : A → Type 0} {P : B → Type 0} (k : A → Ask B) where
  pub holds_bind : {p : Ask A} → Holds R Q p → ((a : A) → Q a → Holds R P (k a)) → Holds R P (p >>= k)
  unfolding ◌>>=◌
  holds_bind (value {a = a} h) g = g a h
  holds_bind (refusal h) g = refusal h
  holds_bind (any_bits h) g = any_bits (λ v l. holds_bind (h v l) g)
  holds_bind (any_zeros h) g = any_zeros (λ v. holds_bind (h v) g)
  holds_bind (any_seen h) g = any_seen (λ l. holds_bind (h l) g)

pub holds_weaken : {A : Type 0} {R : ℕ → Type 0} {P Q : A → Type 0} {p : Ask A} → ((a : A) → P a → Q a) → Holds R P p → Holds R Q p
holds_weaken f (value {a = a} h) = value (f a h)
holds_weaken f (refusal h) = refusal h
holds_weaken f (any_bits h) = any_bits (λ v l. holds_weaken f (h v l))
holds_weaken f (any_zeros h) = any_zeros (λ v. holds_weaken f (h v))
holds_weaken f (any_seen h) = any_seen (λ l. holds_weaken f (h l))

-- the same for refusals
pub holds_refused : {A : Type 0} {R S : ℕ → Type 0} {P : A → Type 0} {p : Ask A} → ((n : ℕ) → R n → S n) → Holds R P p → Holds S P p
holds_refused f (value h) = value h
holds_refused f (refusal {n = n} h) = refusal (f n h)
holds_refused f (any_bits h) = any_bits (λ v l. holds_refused f (h v l))
holds_refused f (any_zeros h) = any_zeros (λ v. holds_refused f (h v))
holds_refused f (any_seen h) = any_seen (λ l. holds_refused f (h l))

module _ {R : ℕ → Type 0} where
  pub holds_bits : (n : ℕ) → Holds R (λ v. v < 2 ^ n) (bits n)
  unfolding bits
  holds_bits n = any_bits (λ v h. value h)

  pub holds_zeros : Holds R (λ v. Unit {0}) zeros
  unfolding zeros
  holds_zeros = any_zeros (λ v. value tt)

  pub holds_passed : Holds R (λ l. Unit {0}) passed
  unfolding passed
  holds_passed = any_seen (λ l. value tt)

  -- after a check, what it checked holds
  pub holds_require : (b : Bool) (n : ℕ) → R n → Holds R (λ u. b ≡ true) (require b n)
  unfolding require
  holds_require true n h = value refl
  holds_require false n h = refusal h

  pub holds_if : {A : Type 0} {P : A → Type 0} (b : Bool) {p q : Ask A} → (b ≡ true → Holds R P p) → (b ≡ false → Holds R P q) → Holds R P (cond b p q)
  holds_if true h g = h refl
  holds_if false h g = g refl

-- ---- lists of values: how many, and what holds of each

abbrev pub Every : {A : Type 0} → (A → Type 0) → List A → Type 0
Every P [] = Unit {0}
Every P (x ∷ xs) = P x × Every P xs

pub every_append : {A : Type 0} (P : A → Type 0) (xs ys : List A) → Every P xs → Every P ys → Every P (xs ++ ys)
every_append P [] ys h g = g
every_append P (x ∷ xs) ys h g = (h.0, every_append P xs ys h.1 g)

pub every_take : {A : Type 0} (P : A → Type 0) (n : ℕ) (xs : List A) → Every P xs → Every P (take n xs)
every_take P zero xs h = tt
every_take P (suc n) [] h = tt
every_take P (suc n) (x ∷ xs) h = (h.0, every_take P n xs h.1)

pub every_drop : {A : Type 0} (P : A → Type 0) (n : ℕ) (xs : List A) → Every P xs → Every P (drop n xs)
every_drop P zero xs h = h
every_drop P (suc n) [] h = tt
every_drop P (suc n) (x ∷ xs) h = every_drop P n xs h.1

pub every_imp : {A : Type 0} {P Q : A → Type 0} → ((a : A) → P a → Q a) → (xs : List A) → Every P xs → Every Q xs
every_imp f [] e = tt
every_imp f (x ∷ xs) e = (f x e.0, every_imp f xs e.1)

pub every_map : {A B : Type 0} (P : B → Type 0) (f : A → B) (xs : List A) → Every (λ x. P (f x)) xs → Every P (map f xs)
every_map P f [] e = tt
every_map P f (x ∷ xs) e = (e.0, every_map P f xs e.1)

pub record Sized {A : Type 0} (n : ℕ) (P : A → Type 0) (xs : List A) : Type 0 where
  pub count : length xs ≡ n
  pub every : Every P xs

abbrev pub total : {A : Type 0} → (A → ℕ) → List A → ℕ
total size [] = 0
total size (x ∷ xs) = size x + total size xs

module _ {A : Type 0} {R : ℕ → Type 0} {P : A → Type 0} where
  pub holds_many : (n : ℕ) {p : Ask A} → Holds R P p → Holds R (Sized n P) (many n p)
  unfolding many
  holds_many zero h = value (record { count = refl; every = tt })
  holds_many (suc n) h =
      holds_bind _ h (λ a q. holds_bind _ (holds_many n h) (λ rest r. value (record { count = ap suc r.count; every = (q, r.every) })))

  pub holds_each : {X : Type 0} (f : X → Ask (List A)) (size : X → ℕ) (xs : List X) → Every (λ x. Holds R (Sized (size x) P) (f x)) xs
      → Holds R (Sized (total size xs) P) (each f xs)
  unfolding each
  holds_each f size [] h = value (record { count = refl; every = tt })
  holds_each f size (x ∷ xs) h =
      holds_bind _ h.0
      (λ a q. holds_bind _ (holds_each f size xs h.1)
      (λ rest r. value (record { count = length-append a rest ∙ ap₂ (λ (m n : ℕ). m + n) q.count r.count; every = every_append P a rest q.every r.every })))

-- ---- what it says about a run

abbrev pub Meets : {A : Type 0} → (ℕ → Type 0) → (A → Type 0) → At A → Type 0
Meets R P (got_at a at) = P a
Meets R P (refused_at n) = R n
Meets R P short_at = Unit {0}

module _ {A : Type 0} (R : ℕ → Type 0) (P : A → Type 0) (s : List ℕ) where
  followed : (x : Reply) (k : ℕ → ℕ → RunResult A) → ((v j : ℕ) → x ≡ found v j → Meets R P (to_at (k v j))) → Meets R P (to_at (follow x k))
  unfolding follow to_at
  followed (found v j) k h = h v j refl
  followed cut k h = tt

  ran : {p : Ask A} (i : ℕ) → Holds R P p → Meets R P (to_at (run p (bits_of_bytes s) i))
  unfolding run to_at reply
  ran i (value h) = h
  ran i (refusal h) = h
  ran i (any_bits {n = n} {k = k} h) =
      followed (bits_from n zero i (drop i (bits_of_bytes s))) (λ v j. run (k v) (bits_of_bytes s) j) (λ v j e. ran j (h v (bits_reply-below s n i e)))
  ran i (any_zeros {k = k} h) = followed (reply next_zeros (bits_of_bytes s) i) (λ v j. run (k v) (bits_of_bytes s) j) (λ v j e. ran j (h v))
  ran i (any_seen h) = ran i (h (take i (bits_of_bytes s)))

  -- on any bytes, from any place
  pub holds_at : {p : Ask A} (at : Place) → Holds R P p → Meets R P (run_at p s at)
  unfolding run_at
  holds_at {p} at h = go (inside s at)
    where
      go : (b : Bool) → Meets R P (cond b (to_at (run p (bits_of_bytes s) (position at))) short_at)
      go true = ran (position at) h
      go false = tt
