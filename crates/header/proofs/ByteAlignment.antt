-- Byte alignment: a reader goes from bit i of a byte to bit j of one; header parts are whole bytes. Assumes nothing.
use Prim.Native.Nat.{ℕ, zero, suc, ◌+◌, ◌%◌}
use native.Mathlib.Omega.{arith}
use mathlib.Core.Path.{◌≡◌, ap, sym, ◌∙◌}
use mathlib.Core.Bool.{Bool, true, false, cond}
use mathlib.Core.List.{List}
use lib.Dec.{leb, ltb, eqb}
use Rattle.reading.specs.declared.Place.{Place}
use Rattle.reading.specs.Readers.{next_bits, Ask, done, stop, ask, ◌>>=◌, bits, require}
use Rattle.reading.specs.Places.{got_at, run_at}
use Rattle.reading.proofs.ByteRuns.{In, stays_in, run_at-done, run_at-stop, bind_parts, bits-end}
use Rattle.reading.proofs.BitsTaken.{starts_in}
use Rattle.rfc9639.specs.Number.{with_followers, number_from, coded_number}
use Rattle.rfc9639.specs.HeaderCodes.{bit_depth, block_size, rate_bits}
use Rattle.rfc9639.specs.Header.{sync, size_and_rate, depth_and_zero, channels_and_bits, codes, block_time}

-- No case for zeros, whose length depends on the input, or for `passed`, which no part before the check sum asks.
pub data Moves {A : Type 0} : ℕ → ℕ → Ask A → Type 0 where
  ends : {i : ℕ} {a : A} → Moves i i (done a)
  stops : {i j n : ℕ} → Moves i j (stop n)
  asks : {i j n : ℕ} {k : ℕ → Ask A} → ((v : ℕ) → Moves ((i + n) % 8) j (k v)) → Moves i j (ask (next_bits n) k)

-- ---- how a move is shown

module _ {A B : Type 0} {j l : ℕ} (k : A → Ask B) where
  pub moves_bind : {i : ℕ} {p : Ask A} → Moves i j p → ((a : A) → Moves j l (k a)) → Moves i l (p >>= k)
  unfolding ◌>>=◌
  moves_bind ends g = g _
  moves_bind stops g = stops
  moves_bind (asks h) g = asks (λ v. moves_bind (h v) g)

pub moves-bits : {i : ℕ} (n : ℕ) → Moves i ((i + n) % 8) (bits n)
unfolding bits
moves-bits n = asks (λ v. ends)

pub moves-require : {i : ℕ} (b : Bool) (n : ℕ) → Moves i i (require b n)
unfolding require
moves-require true n = ends
moves-require false n = stops

pub moves_if : {A : Type 0} {i j : ℕ} (b : Bool) {p q : Ask A} → Moves i j p → Moves i j q → Moves i j (cond b p q)
moves_if true h g = h
moves_if false h g = g

-- ---- what a move says of a run

module _ {A : Type 0} (s : List ℕ) {a : A} {q : Place} {j : ℕ} where
  moves-run : {i : ℕ} {p : Ask A} → Moves i j p → (at : Place) → In s at → at.bit ≡ i → run_at p s at ≡ got_at a q → q.bit ≡ j
  unfolding bits ◌>>=◌
  moves-run (ends {a = x}) at h f e = let d = run_at-done x h in let g : at ≡ q = cc in sym (ap (λ (r : Place). r.bit) g) ∙ f
  moves-run (stops {n = n}) at h f e = absurd (let d = run_at-stop {A = A} n h in let z : ◌≡◌ {A = ℕ} 0 1 = cc in omega arith)
  moves-run (asks {n = n} {k = k} m) at h f e =
      let x = bind_parts (bits n) k s at e in
      let on = bits-end n s at x.2 in
      let g = stays_in (bits n) s at x.2 in
      moves-run (m x.0) x.1 g (omega (arith, g.bit)) x.3

  pub moves_at : {i : ℕ} (p : Ask A) (at : Place) → Moves i j p → at.bit ≡ i → run_at p s at ≡ got_at a q → q.bit ≡ j
  moves_at p at m f e = moves-run m at (starts_in p s at e) f e

-- ---- the parts of a header

with_followers-whole : (n v : ℕ) → Moves 0 0 (with_followers n v)
unfolding with_followers
with_followers-whole zero v = ends
with_followers-whole (suc n) v = moves_bind _ (moves-bits 8) (λ b. moves_bind _ (moves-require _ 5) (λ _. with_followers-whole n _))

number-whole : Moves 0 0 coded_number
unfolding coded_number number_from
number-whole =
    moves_bind _ (moves-bits 8)
    (λ b. moves_if (ltb b 0x80) ends
    (moves_if (ltb b 0xc0) stops
    (moves_if (ltb b 0xe0) (with_followers-whole 1 _)
    (moves_if (ltb b 0xf0) (with_followers-whole 2 _)
    (moves_if (ltb b 0xf8) (with_followers-whole 3 _)
    (moves_if (ltb b 0xfc) (with_followers-whole 4 _)
    (moves_if (ltb b 0xfe) (with_followers-whole 5 _) (moves_if (ltb b 0xff) (with_followers-whole 6 0) stops))))))))

pub time_whole : (blocking : ℕ) → Moves 0 0 (block_time blocking)
unfolding block_time
time_whole blocking = moves_bind _ number-whole (λ n. moves_bind _ (moves-require _ 5) (λ _. ends))

pub size-whole : (code : ℕ) → Moves 0 0 (block_size code)
unfolding block_size
size-whole code =
    moves_if (eqb code 1) ends
    (moves_if (leb code 5) ends
    (moves_if (eqb code 6) (moves_bind _ (moves-bits 8) (λ v. ends))
    (moves_if {i = 0} {j = 0} (eqb code 7) (moves_bind _ (moves-bits 16) (λ v. moves_bind _ (moves-require _ 4) (λ _. ends))) ends)))

pub rate-whole : (code : ℕ) → Moves 0 0 (bits (rate_bits code))
unfolding rate_bits
rate-whole code = go (eqb code 12) (eqb code 13) (eqb code 14)
  where
    go : (a b c : Bool) → Moves 0 0 (bits (cond a 8 (cond b 16 (cond c 16 0))))
    go true b c = moves-bits 8
    go false true c = moves-bits 16
    go false false true = moves-bits 16
    go false false false = moves-bits 0

sync-whole : Moves 0 0 sync
unfolding sync
sync-whole = moves_bind _ (moves-bits 16) (λ v. moves_bind _ (moves-require _ 3) (λ _. ends))

size_and_rate-whole : Moves 0 0 size_and_rate
unfolding size_and_rate
size_and_rate-whole =
    moves_bind _ (moves-bits 4)
    (λ size. moves_bind _ (moves-require _ 4) (λ _. moves_bind _ (moves-bits 4) (λ rate. moves_bind _ (moves-require _ 4) (λ _. ends))))

depth-moves-none : (code : ℕ) → Moves 7 7 (bit_depth code)
unfolding bit_depth
depth-moves-none code =
    moves_if (eqb code 0) ends
    (moves_if (eqb code 1) ends
    (moves_if (eqb code 2) ends
    (moves_if (eqb code 3) stops (moves_if (eqb code 4) ends (moves_if (eqb code 5) ends (moves_if (eqb code 6) ends stops))))))

channels_and_bits-whole : Moves 0 0 channels_and_bits
unfolding channels_and_bits depth_and_zero
channels_and_bits-whole =
    moves_bind _ (moves-bits 4)
    (λ channels. moves_bind _ (moves-require _ 4)
    (λ _. moves_bind _
    (moves_bind _ (moves-bits 3)
    (λ code. moves_bind _ (depth-moves-none code) (λ n. moves_bind _ (moves-bits 1) (λ zero. moves_bind _ (moves-require _ 4) (λ _. ends)))))
    (λ n. ends)))

pub codes-whole : Moves 0 0 codes
unfolding codes
codes-whole = moves_bind _ sync-whole (λ blocking. moves_bind _ size_and_rate-whole (λ c. moves_bind _ channels_and_bits-whole (λ d. ends)))
