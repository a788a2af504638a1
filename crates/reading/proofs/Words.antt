-- Words that hold bits of the input: their parts, their leading zeros, and what questions get. Assumes nothing.
use Prim.Native.Nat.{ℕ, zero, suc, ◌+◌, ◌*◌, ◌-◌, ◌/◌, ◌%◌, ◌^◌, ◌≤◌, ◌<◌}
use native.Mathlib.Nat.{add-zero, zero-add, add_assoc, mul_assoc, mul-le-mul_right, mod-lt, pow-suc, pow-succ', zero-mul, one-mul, eq-zero-or-pos}
use native.Mathlib.Omega.{arith}
use mathlib.Core.Path.{◌≡◌, refl, ap, ap₂, sym, ◌∙◌, subst}
use mathlib.Core.List.{List, [], ◌∷◌, ◌++◌, append_assoc}
use mathlib.Core.Logic.{◌⊎◌, inl, inr, ⊎_elim}
use lib.Count.{count_leading_zeros, leading_of_zero, leading_top, leading_unique}
use lib.ListN.{length, get_or, take, drop, replicate, take-append-drop}
use lib.Pow.{pow_pos, pow-add, high, low, split as parts, field, mod-pow-add, shl_lt, shl-shr, shr-shr}
use lib.Seq.{drop-cons, drop_at, drop-drop, take_at}
use Rattle.reading.specs.Readers.{next_bits, next_zeros, bits, zeros, reply, found, bits_from, zeros_from}
use Rattle.reading.specs.Bytes.{bits_of_bytes}
use Rattle.reading.specs.Places.{place_of, got_at, run_at}
use Rattle.reading.specs.NumbersAsBits.{bits_of, unary, spelt}
use Rattle.reading.proofs.NumbersAsBits.{length-bits_of, bits_of-split, bits_of_mod, bits_of-zero, bits_of-one, spelt-bits_of, bits_of_bytes_cons}
use Rattle.reading.proofs.Bits.{bits_reply, zeros_reply}
use Rattle.reading.proofs.ByteRuns.{In, place-position, of_reply, run_at-ask}

-- the n bits from position i are the low n bits of w
pub record WordAt (s : List ℕ) (i n w : ℕ) : Type 0 where
  pub is : drop i (bits_of_bytes s) ≡ bits_of n w ++ drop (i + n) (bits_of_bytes s)

-- the same, as a contract says it
module _ {s : List ℕ} {i n w : ℕ} where
  pub word-taken : WordAt s i n w → bits_of n w ≡ take n (drop i (bits_of_bytes s))
  word-taken h = sym (ap (take n) h.is ∙ take_at (bits_of n w) (drop (i + n) (bits_of_bytes s)) n (length-bits_of n w))

  pub taken_word : bits_of n w ≡ take n (drop i (bits_of_bytes s)) → WordAt s i n w
  taken_word e = record {
    is = sym (take-append-drop n (drop i (bits_of_bytes s))) ∙ ap₂ (λ x y. x ++ y) (sym e) (drop-drop n i (bits_of_bytes s));
  }

-- ---- bytes

drop-bytes : (s : List ℕ) (n : ℕ) → n ≤ length s → drop (8 * n) (bits_of_bytes s) ≡ bits_of_bytes (drop n s)
drop-bytes s zero h = refl
drop-bytes [] (suc n) h = absurd (omega arith)
drop-bytes (b ∷ s) (suc n) h =
    ap (λ k. drop k (bits_of_bytes (b ∷ s))) (let e : 8 * suc n ≡ 8 + 8 * n = omega arith in e) ∙ sym (drop-drop (8 * n) 8 (bits_of_bytes (b ∷ s)))
    ∙ ap (drop (8 * n)) (ap (drop 8) (sym (bits_of_bytes_cons b s)) ∙ drop_at (bits_of 8 b) (bits_of_bytes s) 8 (length-bits_of 8 b)) ∙ drop-bytes s n (omega arith)

-- a byte of the input is the word of its eight bits
pub byte_at : (s : List ℕ) (n : ℕ) → n < length s → WordAt s (8 * n) 8 (get_or s n 0)
byte_at s n h = record {
  is =
      drop-bytes s n (omega arith) ∙ ap bits_of_bytes (drop-cons s n 0 h) ∙ sym (bits_of_bytes_cons (get_or s n 0) (drop (suc n) s))
      ∙ ap (λ t. bits_of 8 (get_or s n 0) ++ t)
      (sym (drop-bytes s (suc n) h) ∙ ap (λ k. drop k (bits_of_bytes s)) (let e : 8 * suc n ≡ 8 * n + 8 = omega arith in e));
}

-- ---- two words side by side, and the parts of one

module _ {s : List ℕ} {i : ℕ} where
  -- the position, the width and the number, each written in another way
  pub word_as : {j m n v w : ℕ} → i ≡ j → m ≡ n → v ≡ w → WordAt s i m v → WordAt s j n w
  word_as {j} {m} {n} {v} {w} e f g h = subst (λ x. WordAt s j n x) g (subst (λ x. WordAt s j x v) f (subst (λ k. WordAt s k m v) e h))

  pub words-joined : (m n : ℕ) {v w : ℕ} → WordAt s i m v → WordAt s (i + m) n w → w < 2 ^ n → WordAt s i (m + n) (v * 2 ^ n + w)
  words-joined m n {v} {w} a b l = record {
    is =
        a.is ∙ ap (λ t. bits_of m v ++ t) b.is ∙ sym (append_assoc (bits_of m v) (bits_of n w) (drop (i + m + n) (bits_of_bytes s)))
        ∙ ap₂ (λ x k. x ++ drop k (bits_of_bytes s))
        (sym
        (bits_of-split m n (v * 2 ^ n + w)
        ∙ ap₂ (λ x y. bits_of m x ++ y) (high v n l) (sym (bits_of_mod n (v * 2 ^ n + w)) ∙ ap (bits_of n) (low v n l))))
        (add_assoc i m n);
  }

  module _ (m n : ℕ) {w : ℕ} (h : WordAt s i (m + n) w) where
    split : drop i (bits_of_bytes s) ≡ bits_of m (w / 2 ^ n) ++ (bits_of n w ++ drop (i + (m + n)) (bits_of_bytes s))
    split =
        h.is ∙ ap (λ x. x ++ drop (i + (m + n)) (bits_of_bytes s)) (bits_of-split m n w)
        ∙ append_assoc (bits_of m (w / 2 ^ n)) (bits_of n w) (drop (i + (m + n)) (bits_of_bytes s))

    later : drop (i + m) (bits_of_bytes s) ≡ bits_of n w ++ drop (i + (m + n)) (bits_of_bytes s)
    later =
        sym (drop-drop m i (bits_of_bytes s)) ∙ ap (drop m) split
        ∙ drop_at (bits_of m (w / 2 ^ n)) (bits_of n w ++ drop (i + (m + n)) (bits_of_bytes s)) m (length-bits_of m (w / 2 ^ n))

    -- its first m bits
    pub word-front : WordAt s i m (w / 2 ^ n)
    word-front = record { is = split ∙ ap (λ t. bits_of m (w / 2 ^ n) ++ t) (sym later) }

    -- the n bits after them
    pub word_after : WordAt s (i + m) n w
    word_after = record { is = later ∙ ap (λ k. bits_of n w ++ drop k (bits_of_bytes s)) (sym (add_assoc i m n)) }

-- the middle piece: k bits after the first a of a word of n bits
pub word-middle : {s : List ℕ} {i n w : ℕ} (a k : ℕ) → a + k ≤ n → WordAt s i n w → WordAt s (i + a) k (w / 2 ^ (n - (a + k)))
word-middle {s} {i} {n} {w} a k l h =
    let b : ℕ = n - (a + k) in
    let e : n ≡ a + (k + b) = omega arith in
    word-front k b (word_after a (k + b) (word_as refl e refl h))

-- only its low n bits count
word_low : {s : List ℕ} {i n w : ℕ} → WordAt s i n w → WordAt s i n (w % 2 ^ n)
word_low {s} {i} {n} {w} h = record { is = h.is ∙ ap (λ x. x ++ drop (i + n) (bits_of_bytes s)) (sym (bits_of_mod n w)) }

-- a machine finds it by two shifts: the first drops the a bits before it
pub middle-shifted : (n a k w : ℕ) → a + k ≤ n → (w * 2 ^ a) % 2 ^ n / 2 ^ (n - k) ≡ w / 2 ^ (n - (a + k)) % 2 ^ k
middle-shifted n a k w l =
    let b : ℕ = n - (a + k) in
    let e : n ≡ k + (a + b) = omega arith in
    let f : n - k ≡ a + b = omega arith in
    ap₂ (λ x y. (w * 2 ^ a) % 2 ^ x / 2 ^ y) e f ∙ field (w * 2 ^ a) k (a + b)
    ∙ ap (λ x. x % 2 ^ k) (sym (shr-shr (w * 2 ^ a) a b) ∙ ap (λ x. x / 2 ^ b) (shl-shr w a))

pub word-shifted : {s : List ℕ} {i n w : ℕ} (a k : ℕ) → a + k ≤ n → WordAt s i n w → WordAt s (i + a) k ((w * 2 ^ a) % 2 ^ n / 2 ^ (n - k))
word-shifted {n = n} {w} a k l h = word_as refl refl (sym (middle-shifted n a k w l)) (word_low (word-middle a k l h))

-- ---- what each question gets from a word

bits_on : (bs : List ℕ) (n acc i : ℕ) (rest : List ℕ) → bits_from (length bs + n) acc i (bs ++ rest) ≡ bits_from n (spelt acc bs) (i + length bs) rest
unfolding bits_from spelt
bits_on [] n acc i rest = ap₂ (λ m j. bits_from m acc j rest) (let e : 0 + n ≡ n = omega arith in e) (sym (add-zero i))
bits_on (b ∷ bs) n acc i rest =
    ap (λ m. bits_from m acc i (b ∷ (bs ++ rest))) (let e : suc (length bs) + n ≡ suc (length bs + n) = omega arith in e)
    ∙ bits_on bs n (acc * 2 + b) (suc i) rest ∙ ap (λ j. bits_from n (spelt (acc * 2 + b) bs) j rest) (omega arith)

zeros_on : (n z i : ℕ) (rest : List ℕ) → zeros_from z i (replicate n 0 ++ rest) ≡ zeros_from (z + n) (i + n) rest
unfolding zeros_from
zeros_on zero z i rest = ap₂ (λ x y. zeros_from x y rest) (sym (add-zero z)) (sym (add-zero i))
zeros_on (suc n) z i rest = zeros_on n (suc z) (suc i) rest ∙ ap₂ (λ x y. zeros_from x y rest) (omega arith) (omega arith)

module _ {s : List ℕ} {i : ℕ} where
  -- its bits are added to the number, and the question goes on after them
  pub bits_pass : (m n acc : ℕ) {w : ℕ} → WordAt s i m w → bits_reply s (m + n) acc i ≡ bits_reply s n (acc * 2 ^ m + w % 2 ^ m) (i + m)
  bits_pass m n acc {w} h =
      ap₂ (λ k t. bits_from (k + n) acc i t) (sym (length-bits_of m w)) h.is ∙ bits_on (bits_of m w) n acc i (drop (i + m) (bits_of_bytes s))
      ∙ ap₂ (λ x k. bits_from n x (i + k) (drop (i + m) (bits_of_bytes s))) (spelt-bits_of acc m w) (length-bits_of m w)

  -- zeros alone: they are counted, and the question goes on after them
  pub zeros_pass : (n z : ℕ) → WordAt s i n 0 → zeros_reply s z i ≡ zeros_reply s (z + n) (i + n)
  zeros_pass n z h =
      ap (zeros_from z i) (h.is ∙ ap (λ x. x ++ drop (i + n) (bits_of_bytes s)) (bits_of-zero n)) ∙ zeros_on n z i (drop (i + n) (bits_of_bytes s))

  -- zeros and a one: they are counted, and the one ends them
  pub one-ends : (q z : ℕ) → WordAt s i (suc q) 1 → zeros_reply s z i ≡ found (z + q) (i + suc q)
  unfolding zeros_from unary
  one-ends q z h =
      let rest : List ℕ = drop (i + suc q) (bits_of_bytes s) in
      ap (zeros_from z i) (h.is ∙ ap (λ x. x ++ rest) (bits_of-one q) ∙ append_assoc (replicate q 0) (1 ∷ []) rest) ∙ zeros_on q z i (1 ∷ rest)
      ∙ ap (found (z + q)) (omega arith)

-- the same, of a run from the place of its first bit
module _ {s : List ℕ} {i : ℕ} (l : i ≤ 8 * length s) where
  here : In s (place_of i)
  here = record { bit = omega arith; end = omega arith }

  pub zeros-got : (q : ℕ) → WordAt s i (suc q) 1 → run_at zeros s (place_of i) ≡ got_at q (place_of (i + suc q))
  unfolding zeros reply of_reply
  zeros-got q h =
      run_at-ask next_zeros here ∙ ap (λ j. of_reply (zeros_reply s 0 j)) (place-position i) ∙ ap of_reply (one-ends q 0 h)
      ∙ ap (λ x. got_at x (place_of (i + suc q))) (zero-add q)

  pub bits-got : (k : ℕ) {w : ℕ} → WordAt s i k w → run_at (bits k) s (place_of i) ≡ got_at (w % 2 ^ k) (place_of (i + k))
  unfolding bits reply of_reply bits_from
  bits-got k {w} h =
      run_at-ask (next_bits k) here ∙ ap₂ (λ m j. of_reply (bits_reply s m 0 j)) (sym (add-zero k)) (place-position i) ∙ ap of_reply (bits_pass k 0 0 h)
      ∙ ap (λ x. got_at x (place_of (i + k))) (ap (λ x. x + w % 2 ^ k) (zero-mul (2 ^ k)) ∙ zero-add (w % 2 ^ k))

-- ---- leading zeros, over the width

-- zeros after a number leave those before it
leading_shift : (m a u : ℕ) → 0 < u → u < 2 ^ m → count_leading_zeros (m + a) (u * 2 ^ a) ≡ count_leading_zeros m u
leading_shift m a u p l =
    let t = leading_top m u p l in
    let j : ℕ = t.0 in
    let up : 2 ^ (suc j + a) ≡ 2 * (2 ^ j * 2 ^ a) = pow-add 2 (suc j) a ∙ ap (λ x. x * 2 ^ a) (pow-succ' 2 j) ∙ mul_assoc 2 (2 ^ j) (2 ^ a) in
    let le : 2 ^ j * 2 ^ a ≤ u * 2 ^ a = mul-le-mul_right (2 ^ a) t.2 in
    sym (leading_unique (m + a) (u * 2 ^ a) (count_leading_zeros m u) (suc j + a) (omega (arith, t.1)) (shl_lt (suc j) a t.3) (omega (arith, up, le)))

-- a number shifted up by a keeps its low bits
pub low-shifted : (m a w : ℕ) → (w * 2 ^ a) % 2 ^ (m + a) ≡ w % 2 ^ m * 2 ^ a
low-shifted m a w =
    mod-pow-add (w * 2 ^ a) m a
    ∙ ap₂ (λ (x y : ℕ). x % 2 ^ m * 2 ^ a + y) (shl-shr w a) (ap (λ x. x % 2 ^ a) (sym (add-zero (w * 2 ^ a))) ∙ low w a (pow_pos a))
    ∙ add-zero (w % 2 ^ m * 2 ^ a)

one_left : (j w : ℕ) → 2 ^ j ≤ w → w < 2 ^ suc j → w / 2 ^ j ≡ 1
one_left j w a b = ap (λ x. x / 2 ^ j) (let e : w ≡ 1 * 2 ^ j + (w - 2 ^ j) = omega arith in e) ∙ high 1 j (omega (arith, pow-suc 2 j))

-- a number of n bits that is not 0 has a first one
module _ (n v : ℕ) (p : 0 < v) (l : v < 2 ^ n) where
  pub leading_most : count_leading_zeros n v ≤ n - 1
  leading_most = omega (arith, (leading_top n v p l).1)

  pub first_one : v / 2 ^ (n - 1 - count_leading_zeros n v) ≡ 1
  first_one =
      let t = leading_top n v p l in
      let e : n - 1 - count_leading_zeros n v ≡ t.0 = omega (arith, t.1) in ap (λ j. v / 2 ^ j) e ∙ one_left t.0 v t.2 t.3

-- a one with j bits after it, and the first k of them
pub one_and_bits : (v j k : ℕ) → k ≤ j → v / 2 ^ j ≡ 1 → v / 2 ^ (j - k) ≡ 2 ^ k + v / 2 ^ (j - k) % 2 ^ k
one_and_bits v j k l e =
    let x : ℕ = v / 2 ^ (j - k) in
    let f : j - k + k ≡ j = omega arith in
    sym (parts x k)
    ∙ ap (λ y. y + x % 2 ^ k) (ap (λ y. y * 2 ^ k) (shr-shr v (j - k) k ∙ ap (λ y. v / 2 ^ y) f ∙ e) ∙ one-mul (2 ^ k))

-- a word of n bits, shifted up by the a bits before the place; q is the number of its leading zeros
module _ {s : List ℕ} {i n a w q : ℕ} (l : a ≤ n) (h : WordAt s i n w) (e : q ≡ count_leading_zeros n ((w * 2 ^ a) % 2 ^ n)) where
  -- the bits from the place on
  rest : WordAt s (i + a) (n - a) (w % 2 ^ (n - a))
  rest = let f : n ≡ a + (n - a) = omega arith in word_low (word_after a (n - a) (word_as refl f refl h))

  count_is : q ≡ count_leading_zeros (n - a + a) (w % 2 ^ (n - a) * 2 ^ a)
  count_is =
      e ∙ ap (λ k. count_leading_zeros k ((w * 2 ^ a) % 2 ^ k)) (let f : n ≡ n - a + a = omega arith in f)
      ∙ ap (count_leading_zeros (n - a + a)) (low-shifted (n - a) a w)

  cases : ((w % 2 ^ (n - a) ≡ 0) × (q ≡ n)) ⊎ ((0 < w % 2 ^ (n - a)) × (q ≡ count_leading_zeros (n - a) (w % 2 ^ (n - a))))
  cases =
      ⊎_elim
      (λ none. inl (none, count_is ∙ ap (λ x. count_leading_zeros (n - a + a) (x * 2 ^ a)) none ∙ ap (count_leading_zeros (n - a + a)) (zero-mul (2 ^ a)) ∙ leading_of_zero (n - a + a) ∙ omega arith))
      (λ some. inr (some, count_is ∙ leading_shift (n - a) a (w % 2 ^ (n - a)) some (mod-lt w (pow_pos (n - a)))))
      (eq-zero-or-pos (w % 2 ^ (n - a)))

  -- fewer than n of them: the word holds them and the one after them
  pub leading_one : q < n → WordAt s (i + a) (suc q) 1
  leading_one k =
      ⊎_elim (λ c. absurd (omega (arith, c.1)))
      (λ c.
      let t = leading_top (n - a) (w % 2 ^ (n - a)) c.0 (mod-lt w (pow_pos (n - a))) in
      let j : ℕ = t.0 in
      let f : n - a ≡ suc q + j = omega (arith, t.1, c.1) in
      word_as refl refl (one_left j (w % 2 ^ (n - a)) t.2 t.3) (word-front (suc q) j (word_as refl f refl rest)))
      cases

  -- n of them: no one in the word
  pub leading_none : n ≤ q → WordAt s (i + a) (n - a) 0
  leading_none k =
      ⊎_elim (λ c. word_as refl refl c.0 rest)
      (λ c. absurd (omega (arith, c.1, (leading_top (n - a) (w % 2 ^ (n - a)) c.0 (mod-lt w (pow_pos (n - a)))).1)))
      cases

-- ---- eight bytes

pub eight-bytes : (s : List ℕ) (byte : ℕ) {w : ℕ} → byte + 8 ≤ length s → ((k : ℕ) → k < length s → get_or s k 0 < 256)
    → w ≡ (((get_or s byte 0 * 256 + get_or s (byte + 1) 0) * 256 + get_or s (byte + 2) 0) * 256 + get_or s (byte + 3) 0) * 2 ^ 32
    + (((get_or s (byte + 4) 0 * 256 + get_or s (byte + 5) 0) * 256 + get_or s (byte + 6) 0) * 256 + get_or s (byte + 7) 0)
    → bits_of 64 w ≡ take 64 (drop (8 * byte) (bits_of_bytes s))
eight-bytes s byte {w} l below e =
    word-taken
    (word_as refl refl (omega arith)
    (one_more 56 7 refl (omega arith)
    (one_more 48 6 refl (omega arith)
    (one_more 40 5 refl (omega arith)
    (one_more 32 4 refl (omega arith)
    (one_more 24 3 refl (omega arith)
    (one_more 16 2 refl (omega arith)
    (one_more 8 1 refl (omega arith) (byte_at s byte (omega arith))))))))))
  where
    one_more : (n k : ℕ) {v : ℕ} → n ≡ 8 * k → k < 8 → WordAt s (8 * byte) n v → WordAt s (8 * byte) (n + 8) (v * 2 ^ 8 + get_or s (byte + k) 0)
    one_more n k f h v =
        words-joined n 8 v (word_as (let d : 8 * (byte + k) ≡ 8 * byte + n = omega arith in d) refl refl (byte_at s (byte + k) (omega arith)))
        (below (byte + k) (omega arith))
