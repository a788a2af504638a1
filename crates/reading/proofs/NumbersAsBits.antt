-- Numbers as bits and bits as bytes: their lengths, how they split, and that each undoes the other. Assumes nothing.
use Prim.Native.Nat.{ℕ, zero, suc, ◌+◌, ◌*◌, ◌/◌, ◌%◌, ◌^◌, ◌<◌}
use native.Mathlib.Nat.{zero-add, add-zero, suc-add, mul_assoc, add_assoc, add-mul, mul-one, mod-one, mod-mod, mod-lt, div-one, pow-succ', div-eq_of_lt}
use native.Mathlib.Numerals.{add-one, one-add}
use native.Mathlib.Omega.{arith}
use mathlib.Core.Path.{◌≡◌, refl, ap, ap₂, sym, ◌∙◌}
use mathlib.Core.List.{List, [], ◌∷◌, ◌++◌, append_assoc}
use lib.ListN.{length, take, drop, replicate, length-append, length-replicate, replicate-append-replicate, length-drop, take-append-drop}
use lib.Seq.{length-take-le}
use lib.Pow.{pow_pos, pow-lt, shr-shr, mod-pow-add, mod-mod-pow, field}
use Rattle.reading.specs.Bytes.{bits_of_byte, bits_of_bytes}
use Rattle.reading.specs.NumbersAsBits.{bits_of, unary, row, spelt, bytes_of, packed}

-- ---- lists of bits

abbrev pub Bits : List ℕ → Type 0
Bits [] = Unit {0}
Bits (b ∷ s) = (b < 2) × Bits s

pub bits_append : (s t : List ℕ) → Bits s → Bits t → Bits (s ++ t)
bits_append [] t h k = k
bits_append (b ∷ s) t h k = (h.0, bits_append s t h.1 k)

pub bits-take : (i : ℕ) (s : List ℕ) → Bits s → Bits (take i s)
bits-take zero s h = tt
bits-take (suc i) [] h = tt
bits-take (suc i) (b ∷ s) h = (h.0, bits-take i s h.1)

pub bits-drop : (i : ℕ) (s : List ℕ) → Bits s → Bits (drop i s)
bits-drop zero s h = h
bits-drop (suc i) [] h = tt
bits-drop (suc i) (b ∷ s) h = bits-drop i s h.1

pub bits-replicate : (n b : ℕ) → b < 2 → Bits (replicate n b)
bits-replicate zero b h = tt
bits-replicate (suc n) b h = (h, bits-replicate n b h)

pub bits-bits_of : (w v : ℕ) → Bits (bits_of w v)
unfolding bits_of
bits-bits_of zero v = tt
bits-bits_of (suc w) v = (mod-lt (v / 2 ^ w) (omega arith), bits-bits_of w v)

pub bits-unary : (q : ℕ) → Bits (unary q)
unfolding unary
bits-unary q = bits_append (replicate q 0) (1 ∷ []) (bits-replicate q 0 (omega arith)) (omega arith, tt)

pub bits-row : {A : Type 0} (f : A → List ℕ) (xs : List A) → ((x : A) → Bits (f x)) → Bits (row f xs)
unfolding row
bits-row f [] h = tt
bits-row f (x ∷ xs) h = bits_append (f x) (row f xs) (h x) (bits-row f xs h)

-- `Bits` as a record, so that its type names the list
pub record Binary (bs : List ℕ) : Type 0 where
  pub bits : Bits bs

pub binary-bits_of : (w v : ℕ) → Binary (bits_of w v)
binary-bits_of w v = record { bits = bits-bits_of w v }

pub binary_append : {bs cs : List ℕ} → Binary bs → Binary cs → Binary (bs ++ cs)
binary_append {bs} {cs} h k = record { bits = bits_append bs cs h.bits k.bits }

-- ---- a number's bits

pub length-bits_of : (w v : ℕ) → length (bits_of w v) ≡ w
unfolding bits_of
length-bits_of zero v = refl
length-bits_of (suc w) v = ap suc (length-bits_of w v)

pub bits_of-split : (m n v : ℕ) → bits_of (m + n) v ≡ bits_of m (v / 2 ^ n) ++ bits_of n v
unfolding bits_of
bits_of-split zero n v = ap (λ k. bits_of k v) (zero-add n)
bits_of-split (suc m) n v =
    ap (λ k. bits_of k v) (suc-add m n)
    ∙ ap₂ (λ b s. b % 2 ∷ s) (ap (λ k. v / 2 ^ k) (let e : m + n ≡ n + m = omega arith in e) ∙ sym (shr-shr v n m)) (bits_of-split m n v)

-- the w bits of a number depend on its remainder by 2 ^ w alone
bits_of-same : (w a b : ℕ) → a % 2 ^ w ≡ b % 2 ^ w → bits_of w a ≡ bits_of w b
unfolding bits_of
bits_of-same zero a b e = refl
bits_of-same (suc w) a b e =
    let f : a % 2 ^ (1 + w) ≡ b % 2 ^ (1 + w) = rw one-add e in
    ap₂ (λ x s. x ∷ s) (sym (field a 1 w) ∙ ap (λ y. y / 2 ^ w) f ∙ field b 1 w)
    (bits_of-same w a b (sym (mod-mod-pow a 1 w) ∙ ap (λ y. y % 2 ^ w) f ∙ mod-mod-pow b 1 w))

pub bits_of_mod : (w v : ℕ) → bits_of w (v % 2 ^ w) ≡ bits_of w v
bits_of_mod w v = bits_of-same w (v % 2 ^ w) v (mod-mod v (2 ^ w))

pub bits_of-zero : (w : ℕ) → bits_of w 0 ≡ replicate w 0
unfolding bits_of
bits_of-zero zero = refl
bits_of-zero (suc w) = ap₂ (λ b s. b % 2 ∷ s) (div-eq_of_lt (pow_pos w)) (bits_of-zero w)

-- ---- zeros and a one

pub length-unary : (q : ℕ) → length (unary q) ≡ suc q
unfolding unary
length-unary q = simp (length-append, length-replicate, add-one)

pub bits_of-one : (q : ℕ) → bits_of (suc q) 1 ≡ unary q
unfolding bits_of unary
bits_of-one zero = refl
bits_of-one (suc q) = ap₂ (λ b s. b % 2 ∷ s) (div-eq_of_lt (pow-lt {i = 0} {j = suc q} (omega arith))) (bits_of-one q)

-- m zeros more
pub unary-more : (m q : ℕ) → unary (m + q) ≡ bits_of m 0 ++ unary q
unfolding unary
unary-more m q =
    ap (λ z. z ++ (1 ∷ [])) (sym (replicate-append-replicate m q 0)) ∙ append_assoc (replicate m 0) (replicate q 0) (1 ∷ [])
    ∙ ap (λ z. z ++ (replicate q 0 ++ (1 ∷ []))) (sym (bits_of-zero m))

-- ---- the bits of a list's elements

pub row_append : {A : Type 0} (f : A → List ℕ) (xs ys : List A) → row f (xs ++ ys) ≡ row f xs ++ row f ys
unfolding row
row_append f [] ys = refl
row_append f (x ∷ xs) ys = ap (λ s. f x ++ s) (row_append f xs ys) ∙ sym (append_assoc (f x) (row f xs) (row f ys))

-- ---- the number that bits spell

pub spelt-bits_of : (acc w v : ℕ) → spelt acc (bits_of w v) ≡ acc * 2 ^ w + v % 2 ^ w
unfolding spelt bits_of
spelt-bits_of acc zero v = simp (mul-one, mod-one, add-zero)
spelt-bits_of acc (suc w) v =
    let e : v % 2 ^ suc w ≡ v / 2 ^ w % 2 * 2 ^ w + v % 2 ^ w = ap (λ k. v % 2 ^ k) (sym (one-add w)) ∙ mod-pow-add v 1 w in
    let b : ℕ = v / 2 ^ w % 2 in
    spelt-bits_of (acc * 2 + b) w v ∙ ap (λ x. x + v % 2 ^ w) (add-mul (acc * 2) b (2 ^ w)) ∙ add_assoc (acc * 2 * 2 ^ w) (b * 2 ^ w) (v % 2 ^ w)
    ∙ ap₂ (λ (x y : ℕ). x + y) (mul_assoc acc 2 (2 ^ w) ∙ ap (λ x. acc * x) (sym (pow-succ' 2 w))) (sym e)

-- the bits that come after `acc` stand below it
spelt-high : (acc : ℕ) (s : List ℕ) → Bits s → spelt acc s / 2 ^ length s ≡ acc
unfolding spelt
spelt-high acc [] h = div-one acc
spelt-high acc (b ∷ s) h =
    ap (λ k. spelt (acc * 2 + b) s / 2 ^ k) (sym (add-one (length s))) ∙ sym (shr-shr (spelt (acc * 2 + b) s) (length s) 1)
    ∙ ap (λ x. x / 2) (spelt-high (acc * 2 + b) s h.1) ∙ omega (arith, h.0)

pub bits_of-spelt : (acc : ℕ) (s : List ℕ) → Bits s → bits_of (length s) (spelt acc s) ≡ s
unfolding spelt bits_of
bits_of-spelt acc [] h = refl
bits_of-spelt acc (b ∷ s) h =
    ap₂ (λ x t. x ∷ t) (ap (λ x. x % 2) (spelt-high (acc * 2 + b) s h.1) ∙ omega (arith, h.0)) (bits_of-spelt (acc * 2 + b) s h.1)

-- ---- bytes

pub bits_of_byte_is : (b : ℕ) → bits_of_byte b ≡ bits_of 8 b
unfolding bits_of_byte bits_of
bits_of_byte_is b = refl

pub bits_of_bytes_cons : (b : ℕ) (bs : List ℕ) → bits_of 8 b ++ bits_of_bytes bs ≡ bits_of_bytes (b ∷ bs)
unfolding bits_of_bytes
bits_of_bytes_cons b bs = ap (λ s. s ++ bits_of_bytes bs) (sym (bits_of_byte_is b))

pub length-bytes_of : (m : ℕ) (s : List ℕ) → length (bytes_of m s) ≡ m
unfolding bytes_of
length-bytes_of zero s = refl
length-bytes_of (suc m) s = ap suc (length-bytes_of m (drop 8 s))

pub length-packed : (s : List ℕ) → length (packed s) ≡ length s / 8
unfolding packed
length-packed s = length-bytes_of (length s / 8) s

-- eight bits make a byte with these bits
byte-back : (s : List ℕ) → Bits s → length s ≡ 8 → bits_of_byte (spelt 0 s) ≡ s
byte-back s h e = bits_of_byte_is (spelt 0 s) ∙ ap (λ k. bits_of k (spelt 0 s)) (sym e) ∙ bits_of-spelt 0 s h

pub bits_of_bytes-bytes_of : (m : ℕ) (s : List ℕ) → Bits s → length s ≡ 8 * m → bits_of_bytes (bytes_of m s) ≡ s
unfolding bytes_of bits_of_bytes
bits_of_bytes-bytes_of zero [] h e = refl
bits_of_bytes-bytes_of zero (b ∷ s) h e = absurd (omega arith)
bits_of_bytes-bytes_of (suc m) s h e =
    ap₂ (λ x y. x ++ y) (byte-back (take 8 s) (bits-take 8 s h) (length-take-le 8 s (omega arith)))
    (bits_of_bytes-bytes_of m (drop 8 s) (bits-drop 8 s h) (omega (arith, length-drop 8 s))) ∙ take-append-drop 8 s
