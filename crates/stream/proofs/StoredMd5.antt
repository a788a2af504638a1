-- The MD5 of a stream header, as bytes, is the bytes 26 to 41 of the input as they are stored. Assumes nothing.
use Prim.Native.Nat.{ℕ, zero, suc, ◌+◌, ◌*◌, ◌/◌, ◌%◌, ◌^◌, ◌≤◌, ◌<◌}
use native.Mathlib.Nat.{pow-suc}
use native.Mathlib.Omega.{arith}
use mathlib.Core.Path.{◌≡◌, refl, ap, ap₂, sym, ◌∙◌, subst}
use mathlib.Core.Bool.{Bool}
use mathlib.Core.List.{List, ◌∷◌, ◌++◌}
use lib.ListN.{length, get_or, take, drop}
use lib.Pow.{pow-add}
use lib.Seq.{drop-cons, drop-drop, take-add}
use Rattle.reading.specs.declared.Place.{Place}
use Rattle.reading.specs.Readers.{Ask, done, ◌>>=◌, bits}
use Rattle.reading.specs.Places.{position, place_of, got_at, run_at}
use Rattle.reading.proofs.NumbersAsBits.{bits_of_mod}
use Rattle.reading.proofs.ByteRuns.{stays_in, position-place, run_at-done, bind_parts, bits-end}
use Rattle.reading.proofs.BitsTaken.{starts_in}
use Rattle.reading.proofs.Words.{WordAt, taken_word, byte_at, word_as, word-front, word_after, bits-got, eight-bytes}
use Rattle.rfc9639.specs.declared.Md5.{Md5}
use Rattle.rfc9639.specs.declared.StreamInfo.{StreamInfo}
use Rattle.rfc9639.specs.StreamHeader.{mark, md5, stream_info, first_block, stream_start, stream_header, stream_header_of}
use Rattle.rfc9639.proofs.StreamHeaderBits.{start-takes}
use Rattle.stream.specs.Answers.{bytes_from, md5_bytes}

-- ---- the bytes of a number that stands in the input

bytes_bits : (n : ℕ) → 256 ^ n ≡ 2 ^ (8 * n)
bytes_bits zero = refl
bytes_bits (suc n) =
    pow-suc 256 n ∙ ap (λ x. x * 256) (bytes_bits n) ∙ sym (pow-add 2 (8 * n) 8) ∙ ap (λ k. 2 ^ k) (let e : 8 * n + 8 ≡ 8 * suc n = omega arith in e)

module _ (s : List ℕ) (below : (k : ℕ) → k < length s → get_or s k 0 < 256) where
  byte_is : (i : ℕ) {v : ℕ} → i < length s → WordAt s (8 * i) 8 v → v % 256 ≡ get_or s i 0
  byte_is i {v} l h =
      let a = bits-got {s = s} {i = 8 * i} (omega arith) 8 h in
      let b = bits-got {s = s} {i = 8 * i} (omega arith) 8 (byte_at s i l) in
      let e : v % 2 ^ 8 ≡ get_or s i 0 % 2 ^ 8 = cc in omega (arith, below i l)

  bytes_are : (n i : ℕ) {v : ℕ} → i + n ≤ length s → WordAt s (8 * i) (8 * n) v → bytes_from n v ≡ take n (drop i s)
  bytes_are zero i l h = refl
  bytes_are (suc n) i {v} l h =
      let g : WordAt s (8 * i) (8 + 8 * n) v = word_as refl (let e : 8 * suc n ≡ 8 + 8 * n = omega arith in e) refl h in
      ap₂ (λ b t. b ∷ t) (ap (λ d. v / d % 256) (bytes_bits n) ∙ byte_is i (omega arith) (word-front 8 (8 * n) g))
      (bytes_are n (suc i) (omega arith) (word_as (let e : 8 * i + 8 ≡ 8 * suc i = omega arith in e) refl refl (word_after 8 (8 * n) g)))
      ∙ sym (ap (take (suc n)) (drop-cons s i 0 (omega arith)))

  -- a number of eight bytes that was read
  half_is : (i : ℕ) (p : Place) {v : ℕ} {q : Place} → p.bit < 8 → position p ≡ 8 * i → run_at (bits 64) s p ≡ got_at v q → bytes_from 8 v ≡ take 8 (drop i s)
  half_is i p {v} {q} b f e =
      let l : i + 8 ≤ length s = omega (arith, bits-end 64 s p e, (stays_in (bits 64) s p e).end) in
      let o = eight-bytes s i l below refl in
      let g = bits-got {s = s} {i = 8 * i} (omega arith) 64 (taken_word o) in
      let d : run_at (bits 64) s (place_of (8 * i)) ≡ got_at v q = ap (λ j. run_at (bits 64) s (place_of j)) (sym f) ∙ ap (run_at (bits 64) s) (position-place p b) ∙ e in
      bytes_are 8 i l (word_as refl refl (value (sym g ∙ d)) (taken_word (bits_of_mod 64 _ ∙ o)))
    where
      value : {x y : ℕ} {a c : Place} → got_at x a ≡ got_at y c → x ≡ y
      value h = cc

-- ---- the MD5 in a header: its two numbers are what was read last, up to the end of STREAMINFO

record Halves (s : List ℕ) (end : Place) (sum : Md5) : Type 0 where
  at : Place
  middle : Place
  high : run_at (bits 64) s at ≡ got_at sum.high middle
  low : run_at (bits 64) s middle ≡ got_at sum.low end

module _ (s : List ℕ) where
  -- a reader, then a function of what it got
  then_holds : {A B : Type 0} (p : Ask A) (f : A → B) (at : Place) (Q : B → Type 0) {b : B} {end : Place} → run_at (p >>= (λ a. done (f a))) s at ≡ got_at b end
      → ((a : A) → run_at p s at ≡ got_at a end → Q (f a)) → Q b
  then_holds p f at Q {b} {end} e k =
      let x = bind_parts p (λ a. done (f a)) s at e in
      let d = run_at-done (f x.0) (stays_in p s at x.2) in
      let g : x.1 ≡ end = cc in
      let h : f x.0 ≡ b = cc in
      subst Q h (k x.0 (x.2 ∙ ap (got_at x.0) g))

  md5_halves : (at : Place) {sum : Md5} {end : Place} → run_at md5 s at ≡ got_at sum end → Halves s end sum
  unfolding md5
  md5_halves at {sum} {end} e =
      let x = bind_parts (bits 64) _ s at e in
      then_holds (bits 64) _ x.1 (Halves s end) x.3 (λ low g. record { at = at; middle = x.1; high = x.2; low = g })

  info_halves : (at : Place) {info : StreamInfo} {end : Place} → run_at stream_info s at ≡ got_at info end → Halves s end info.md5
  unfolding stream_info
  info_halves at {info} {end} e =
      let a = bind_parts _ _ s at e in
      let b = bind_parts _ _ s a.1 a.3 in
      let c = bind_parts _ _ s b.1 b.3 in
      let d = bind_parts _ _ s c.1 c.3 in
      then_holds md5 _ d.1 (λ (i : StreamInfo). Halves s end i.md5) d.3 (λ sum g. md5_halves d.1 g)

  first_halves : (at : Place) {x : Bool × StreamInfo} {end : Place} → run_at first_block s at ≡ got_at x end → Halves s end x.1.md5
  unfolding first_block
  first_halves at {x} {end} e =
      let a = bind_parts _ _ s at e in
      let b = bind_parts _ _ s a.1 a.3 in
      let c = bind_parts _ _ s b.1 b.3 in
      let d = bind_parts _ _ s c.1 c.3 in
      then_holds stream_info _ d.1 (λ (y : Bool × StreamInfo). Halves s end y.1.md5) d.3 (λ info g. info_halves d.1 g)

  -- STREAMINFO ends after 42 bytes
  header_halves : {info : StreamInfo} {p : Place} → stream_header_of s ≡ got_at info p → (end : Place) × (position end ≡ 336) × Halves s end info.md5
  unfolding stream_header_of stream_header stream_start
  header_halves e =
      let a = bind_parts stream_start _ s (place_of 0) e in
      let b = bind_parts mark (λ _. first_block) s (place_of 0) a.2 in
      let n = start-takes.taken s (place_of 0) a.0 a.1 a.2 in
      (a.1, omega (arith, n.1, n.2), then_holds _ _ a.1 (λ (i : StreamInfo). Halves s a.1 i.md5) a.3 (λ _ _. first_halves b.1 b.3))

-- ---- the theorem

pub stored-md5 : (s : List ℕ) {info : StreamInfo} {p : Place} → stream_header_of s ≡ got_at info p → ((k : ℕ) → k < length s → get_or s k 0 < 256)
    → md5_bytes info.md5 ≡ take 16 (drop 26 s)
stored-md5 s e below =
    let x = header_halves s e in
    let h = x.2 in
    let low = bits-end 64 s h.middle h.low in
    let high = bits-end 64 s h.at h.high in
    ap₂ (λ x y. x ++ y)
    (half_is s below 26 h.at (starts_in (bits 64) s h.at h.high).bit (omega (arith, x.1)) h.high)
    (half_is s below 34 h.middle (stays_in (bits 64) s h.at h.high).bit (omega (arith, x.1)) h.low ∙ sym (ap (take 8) (drop-drop 8 26 s)))
    ∙ sym (take-add 8 8 (drop 26 s))
