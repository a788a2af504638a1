-- Integers of w bits: which integers fit a width, and which low bits they have, for every width. Assumes nothing.
use Prim.Native.Nat.{ℕ, zero, suc, ◌+◌, ◌-◌, ◌*◌, ◌/◌, ◌%◌, ◌^◌, ◌≤◌, ◌<◌}
use native.Mathlib.Nat.{lt_of_le_of_lt, lt_of_lt_of_le, mod-lt, mod-eq_of_lt, mod-mod, mod_self, zero-mod, mod-eq-sub-mod, mod-add-mod, add-mod, add_comm, add-mul-mod_self_right, mul-add-mod_self_right, mul-suc, mul_assoc, mul_comm, add-mul, zero-mul, div-add-mod', div-le_self, div-eq_of_lt, pow-suc, mul-mod_left, mul-pos, mul-lt-mul_of_pos_right, mul-le-mul_right}
use native.Mathlib.Omega.{arith}
use mathlib.Core.Path.{◌≡◌, refl, ap, ap₂, sym, ◌∙◌, subst}
use mathlib.Core.Bool.{Bool, true, false, cond}
use borrow.Author.Tests.{ltb-true, ltb-false, lt-ltb, le-ltb}
use lib.Dec.{ltb}
use lib.IntN.{ℤ, pos, negsuc, neg_ℤ, sub_ℕ, ◌+ℤ◌, ◌-ℤ◌, ◌*ℤ◌}
use lib.Pow.{pow_pos, pow_mono, pow-add, mod-mod-pow}
use lib.Signed.{mag}
use mir.Syntax.{Width}
use mir.Val.{SFits, bits, hbits}
use mir.ValLaws.{bits-suc}
use Rattle.rfc9639.specs.Integers.{signed, low, wrapped, shift_down, shift_up}

-- ---- remainders

-- equal summands cancel
cancel : (m a b c : ℕ) → zero < m → (a + c) % m ≡ (b + c) % m → a % m ≡ b % m
cancel m a b c h e =
    sym (back a) ∙ sym (mod-add-mod (a + c) m (c * (m - 1))) ∙ ap (λ x. (x + c * (m - 1)) % m) e ∙ mod-add-mod (b + c) m (c * (m - 1)) ∙ back b
  where
    whole : c * m ≡ c * (m - 1) + c
    whole = ap (λ x. c * x) (let f : m ≡ suc (m - 1) = omega arith in f) ∙ mul-suc c (m - 1)

    back : (k : ℕ) → (k + c + c * (m - 1)) % m ≡ k % m
    back k = ap (λ x. x % m) (let f : k + c + c * (m - 1) ≡ k + c * m = omega (arith, whole) in f) ∙ add-mul-mod_self_right k c m

-- a product's remainder, by the remainder of a factor
scaled : (m x k : ℕ) → (x * k) % m ≡ (x % m * k) % m
scaled m x k = ap (λ y. y % m) (sym whole) ∙ mul-add-mod_self_right (x / m * k) m (x % m * k)
  where
    whole : x / m * k * m + x % m * k ≡ x * k
    whole =
        ap (λ y. y + x % m * k) (mul_assoc (x / m) k m ∙ ap (λ y. x / m * y) (mul_comm k m) ∙ sym (mul_assoc (x / m) m k))
        ∙ sym (add-mul (x / m * m) (x % m) k) ∙ ap (λ y. y * k) (div-add-mod' x m)

-- the only positive multiple of m below 2 m is m
once : (m t : ℕ) → zero < t → t < m + m → t % m ≡ 0 → t ≡ m
once m t p h e = go (ltb t m) refl
  where
    go : (b : Bool) → ltb t m ≡ b → t ≡ m
    go true f = let l = ltb-true t m f in omega (arith, mod-eq_of_lt l)
    go false f = let l = ltb-false t m f in omega (arith, mod-eq-sub-mod l, mod-eq_of_lt {n = t - m} {m = m} (omega arith))

-- ---- a natural number x equal to an integer z modulo m

abbrev Modulo : ℕ → ℤ → ℕ → Type 0
Modulo m (pos n) x = x % m ≡ n % m
Modulo m (negsuc n) x = (x + suc n) % m ≡ 0

modulo_neg : (m n x : ℕ) → (x + n) % m ≡ 0 → Modulo m (neg_ℤ (pos n)) x
modulo_neg m zero x e = ap (λ y. y % m) (let f : x ≡ x + 0 = omega arith in f) ∙ e ∙ sym (zero-mod m)
modulo_neg m (suc n) x e = e

module _ (m : ℕ) (h : zero < m) where
  mixed : (a b x y : ℕ) → x % m ≡ a % m → (y + suc b) % m ≡ 0 → Modulo m (sub_ℕ a (suc b)) (x + y)
  mixed a b x y p q = go (ltb a (suc b)) refl
    where
      both : (x + y + suc b) % m ≡ a % m
      both =
          ap (λ k. k % m) (let f : x + y + suc b ≡ x + (y + suc b) = omega arith in f) ∙ add-mod x (y + suc b) m
          ∙ ap₂ (λ u v. (u + v) % m) p q ∙ ap (λ k. k % m) (let f : a % m + 0 ≡ a % m = omega arith in f) ∙ mod-mod a m

      go : (t : Bool) → ltb a (suc b) ≡ t → Modulo m (cond t (negsuc (suc b - suc a)) (pos (a - suc b))) (x + y)
      go true e =
          let l = ltb-true a (suc b) e in
          cancel m (x + y + suc (suc b - suc a)) 0 a h
          (ap (λ k. k % m) (let f : x + y + suc (suc b - suc a) + a ≡ x + y + suc b = omega arith in f) ∙ both ∙ ap (λ k. k % m) (let f : a ≡ 0 + a = omega arith in f))
          ∙ zero-mod m
      go false e =
          let l = ltb-false a (suc b) e in
          cancel m (x + y) (a - suc b) (suc b) h (both ∙ ap (λ k. k % m) (let f : a ≡ a - suc b + suc b = omega arith in f))

  modulo_add : (a b : ℤ) (x y : ℕ) → Modulo m a x → Modulo m b y → Modulo m (a +ℤ b) (x + y)
  modulo_add (pos a) (pos b) x y p q = add-mod x y m ∙ ap₂ (λ u v. (u + v) % m) p q ∙ sym (add-mod a b m)
  modulo_add (pos a) (negsuc b) x y p q = mixed a b x y p q
  modulo_add (negsuc a) (pos b) x y p q = subst (Modulo m (sub_ℕ b (suc a))) (add_comm y x) (mixed b a y x q p)
  modulo_add (negsuc a) (negsuc b) x y p q =
      ap (λ k. k % m) (let f : x + y + suc (suc (a + b)) ≡ x + suc a + (y + suc b) = omega arith in f) ∙ add-mod (x + suc a) (y + suc b) m
      ∙ ap₂ (λ u v. (u + v) % m) p q ∙ zero-mod m

  modulo_mul : (z : ℤ) (x k : ℕ) → Modulo m z x → Modulo m (z *ℤ pos k) (x * k)
  modulo_mul (pos n) x k p = scaled m x k ∙ ap (λ y. (y * k) % m) p ∙ sym (scaled m n k)
  modulo_mul (negsuc n) x k p =
      modulo_neg m (suc n * k) (x * k)
      (ap (λ y. y % m) (sym (add-mul x (suc n) k)) ∙ scaled m (x + suc n) k ∙ ap (λ y. (y * k) % m) p ∙ ap (λ y. y % m) (zero-mul k) ∙ zero-mod m)

  modulo_mod : (z : ℤ) (x : ℕ) → Modulo m z x → Modulo m z (x % m)
  modulo_mod (pos n) x p = mod-mod x m ∙ p
  modulo_mod (negsuc n) x p = mod-add-mod x m (suc n) ∙ p

-- ---- the low bits of an integer

-- z equals x modulo 2 ^ w
pub record Congruent (w : ℕ) (z : ℤ) (x : ℕ) : Type 0 where
  pub modulo : Modulo (2 ^ w) z x

pub low_lt : (w : ℕ) (z : ℤ) → low w z < 2 ^ w
unfolding low
low_lt w (pos n) = mod-lt n (pow_pos w)
low_lt w (negsuc n) = omega (arith, pow_pos w)

module _ (w : ℕ) where
  full : (n : ℕ) → 2 ^ w - suc (n % 2 ^ w) + suc n ≡ 2 ^ w + n / 2 ^ w * 2 ^ w
  full n = omega (arith, div-add-mod' n (2 ^ w), mod-lt n (pow_pos w))

  pub low_congruent : (z : ℤ) → Congruent w z (low w z)
  unfolding low
  low_congruent (pos n) = record { modulo = mod-mod n (2 ^ w) }
  low_congruent (negsuc n) = record {
    modulo =
        ap (λ x. x % 2 ^ w) (full n) ∙ add-mul-mod_self_right (2 ^ w) (n / 2 ^ w) (2 ^ w) ∙ mod_self (2 ^ w);
  }

  unique : (z : ℤ) (x : ℕ) → x < 2 ^ w → Congruent w z x → x ≡ low w z
  unfolding low
  unique (pos n) x h p = sym (mod-eq_of_lt h) ∙ p.modulo
  unique (negsuc n) x h p =
      omega (
        arith,
        mod-lt n (pow_pos w),
        once (2 ^ w) (suc (n % 2 ^ w) + x) (omega arith) (omega (arith, mod-lt n (pow_pos w)))
            (ap (λ k. k % 2 ^ w) (let f : suc (n % 2 ^ w) + x ≡ n % 2 ^ w + suc x = omega arith in f) ∙ mod-add-mod n (2 ^ w) (suc x)
            ∙ ap (λ k. k % 2 ^ w) (let f : n + suc x ≡ x + suc n = omega arith in f) ∙ p.modulo),
      )

  pub low_of_congruent : {z : ℤ} {x : ℕ} → Congruent w z x → x % 2 ^ w ≡ low w z
  low_of_congruent {z} {x} p = unique z (x % 2 ^ w) (mod-lt x (pow_pos w)) (record { modulo = modulo_mod (2 ^ w) (pow_pos w) z x p.modulo })

  pub congruent_add : {a b : ℤ} {x y : ℕ} → Congruent w a x → Congruent w b y → Congruent w (a +ℤ b) (x + y)
  congruent_add {a} {b} {x} {y} p q = record { modulo = modulo_add (2 ^ w) (pow_pos w) a b x y p.modulo q.modulo }

  pub congruent_mul : {z : ℤ} {x : ℕ} → Congruent w z x → (k : ℕ) → Congruent w (z *ℤ pos k) (x * k)
  congruent_mul {z} {x} p k = record { modulo = modulo_mul (2 ^ w) (pow_pos w) z x k p.modulo }

  -- the low bits of a sum and of a multiple, by the low bits of the parts
  pub low_add : (a b : ℤ) → low w (a +ℤ b) ≡ (low w a + low w b) % 2 ^ w
  low_add a b = sym (low_of_congruent (congruent_add (low_congruent a) (low_congruent b)))

  pub low_mul : (z : ℤ) (k : ℕ) → low w (z *ℤ pos k) ≡ (low w z * k) % 2 ^ w
  low_mul z k = sym (low_of_congruent (congruent_mul (low_congruent z) k))

  -- the value of w bits has these low bits
  pub low_signed : (v : ℕ) → v < 2 ^ w → low w (signed w v) ≡ v
  unfolding signed low
  low_signed v h = go (ltb (v * 2) (2 ^ w)) refl
    where
      go : (t : Bool) → ltb (v * 2) (2 ^ w) ≡ t → low w (cond t (pos v) (negsuc (2 ^ w - suc v))) ≡ v
      go true e = mod-eq_of_lt h
      go false e = ap (λ x. 2 ^ w - suc x) (mod-eq_of_lt {n = 2 ^ w - suc v} (omega (arith, pow_pos w))) ∙ (let f : 2 ^ w - suc (2 ^ w - suc v) ≡ v = omega arith in f)

  pub low-wrapped : (z : ℤ) → low w (wrapped w z) ≡ low w z
  unfolding wrapped
  low-wrapped z = low_signed (low w z) (low_lt w z)

  pub wrapped_of : (a b : ℤ) → low w a ≡ low w b → wrapped w a ≡ wrapped w b
  unfolding wrapped
  wrapped_of a b e = ap (signed w) e

  pub wrapped-wrapped : (z : ℤ) → wrapped w (wrapped w z) ≡ wrapped w z
  wrapped-wrapped z = wrapped_of (wrapped w z) z (low-wrapped z)

  -- a sum's low bits depend only on the low bits of its parts
  pub low_add_of : (a a' b b' : ℤ) → low w a ≡ low w a' → low w b ≡ low w b' → low w (a +ℤ b) ≡ low w (a' +ℤ b')
  low_add_of a a' b b' p q = low_add a b ∙ ap₂ (λ x y. (x + y) % 2 ^ w) p q ∙ sym (low_add a' b')

-- ---- a narrower width

module _ (w j : ℕ) where
  narrower : (x y : ℕ) → x % 2 ^ (j + w) ≡ y % 2 ^ (j + w) → x % 2 ^ w ≡ y % 2 ^ w
  narrower x y e = sym (mod-mod-pow x j w) ∙ ap (λ k. k % 2 ^ w) e ∙ mod-mod-pow y j w

  modulo-narrow : (z : ℤ) (x : ℕ) → Modulo (2 ^ (j + w)) z x → Modulo (2 ^ w) z x
  modulo-narrow (pos n) x p = narrower x n p
  modulo-narrow (negsuc n) x p = narrower (x + suc n) 0 (p ∙ sym (zero-mod (2 ^ (j + w)))) ∙ zero-mod (2 ^ w)

  pub congruent_narrow : {z : ℤ} {x : ℕ} → Congruent (j + w) z x → Congruent w z x
  congruent_narrow {z} {x} p = record { modulo = modulo-narrow z x p.modulo }

module _ (w w' : ℕ) (h : w ≤ w') where
  pub low-low : (z : ℤ) → low w' z % 2 ^ w ≡ low w z
  low-low z =
      subst (λ n. low n z % 2 ^ w ≡ low w z) (let f : w' - w + w ≡ w' = omega arith in f)
      (low_of_congruent w (congruent_narrow w (w' - w) (low_congruent (w' - w + w) z)))

-- ---- what fits a width, in two's complement

pub record Fits (w : ℕ) (z : ℤ) : Type 0 where
  pub fits : mag z < 2 ^ (w - 1)

-- at the widths of the machine
pub of_sfits : {w : Width} {z : ℤ} → SFits w z → Fits (bits w) z
of_sfits {w} {z} h = record { fits = subst (λ n. mag z < 2 ^ n) (let e : hbits w ≡ bits w - 1 = omega (arith, bits-suc w) in e) h.sfits }

pub to_sfits : {w : Width} {z : ℤ} → Fits (bits w) z → SFits w z
to_sfits {w} {z} h = record { sfits = subst (λ n. mag z < 2 ^ n) (let e : bits w - 1 ≡ hbits w = omega (arith, bits-suc w) in e) h.fits }

pub fits-mono : {w w' : ℕ} {z : ℤ} → w ≤ w' → Fits w z → Fits w' z
fits-mono {w} {w'} h f = record { fits = lt_of_lt_of_le f.fits (pow_mono {i = w - 1} {j = w' - 1} (omega arith)) }

-- 2 ^ w is twice the power before it
pub pow_double : (w : ℕ) → 1 ≤ w → 2 ^ w ≡ 2 ^ (w - 1) * 2
pow_double w h = ap (λ n. 2 ^ n) (let e : w ≡ suc (w - 1) = omega arith in e) ∙ pow-suc 2 (w - 1)

-- the same for a width of one bit more
pub pow_more : (w : ℕ) → 1 ≤ w → 2 ^ (w + 1 - 1) ≡ 2 ^ (w - 1) * 2
pow_more w h = ap (λ n. 2 ^ n) (let e : w + 1 - 1 ≡ w = omega arith in e) ∙ pow_double w h

halved : (w : ℕ) → 2 ^ w ≤ 2 ^ (w - 1) * 2
halved zero = omega arith
halved (suc w) = omega (arith, pow_double (suc w) (omega arith))

pub signed-fits : (w v : ℕ) → v < 2 ^ w → Fits w (signed w v)
unfolding signed
signed-fits w v h = go (ltb (v * 2) (2 ^ w)) refl
  where
    go : (t : Bool) → ltb (v * 2) (2 ^ w) ≡ t → Fits w (cond t (pos v) (negsuc (2 ^ w - suc v)))
    go true e = record { fits = omega (arith, ltb-true (v * 2) (2 ^ w) e, halved w) }
    go false e = record { fits = omega (arith, ltb-false (v * 2) (2 ^ w) e, halved w) }

pub wrapped-fits : (w : ℕ) (z : ℤ) → Fits w (wrapped w z)
unfolding wrapped
wrapped-fits w z = signed-fits w (low w z) (low_lt w z)

-- a number that fits keeps its value
pub wrapped_same : (w : ℕ) (z : ℤ) → 1 ≤ w → Fits w z → wrapped w z ≡ z
unfolding wrapped signed low
wrapped_same w (pos n) h f =
    let k = pow_double w h in
    let e : n % 2 ^ w ≡ n = mod-eq_of_lt (omega (arith, f.fits, k)) in
    rw e (rw (lt-ltb (n * 2) (2 ^ w) (omega (arith, f.fits, k))))
wrapped_same w (negsuc n) h f =
    let k = pow_double w h in
    let e : n % 2 ^ w ≡ n = mod-eq_of_lt (omega (arith, f.fits, k)) in
    rw e (rw (le-ltb ((2 ^ w - suc n) * 2) (2 ^ w) (omega (arith, f.fits, k))) (ap negsuc (let g : 2 ^ w - suc (2 ^ w - suc n) ≡ n = omega (arith, f.fits, k) in g)))

-- a sum or a difference needs one bit more
sub_mag : (a b B : ℕ) → a ≤ B → b < B → mag (sub_ℕ a (suc b)) < B
sub_mag a b B h k = go (ltb a (suc b)) refl
  where
    go : (t : Bool) → ltb a (suc b) ≡ t → mag (cond t (negsuc (suc b - suc a)) (pos (a - suc b))) < B
    go true e = omega arith
    go false e = omega (arith, ltb-false a (suc b) e)

add_mag : (a b : ℤ) (B : ℕ) → mag a < B → mag b < B → mag (a +ℤ b) < B * 2
add_mag (pos a) (pos b) B h k = omega arith
add_mag (pos a) (negsuc b) B h k = omega (arith, sub_mag a b B (omega arith) k)
add_mag (negsuc a) (pos b) B h k = omega (arith, sub_mag b a B (omega arith) h)
add_mag (negsuc a) (negsuc b) B h k = omega arith

minus-mag : (a b : ℤ) (B : ℕ) → mag a < B → mag b < B → mag (a -ℤ b) < B * 2
minus-mag a (pos zero) B h k = add_mag a (pos zero) B h k
minus-mag a (pos (suc n)) B h k = add_mag a (negsuc n) B h (omega arith)
minus-mag (pos a) (negsuc n) B h k = omega arith
minus-mag (negsuc a) (negsuc n) B h k = omega (arith, sub_mag (suc n) a B k h)

module _ {w : ℕ} {a b : ℤ} (h : 1 ≤ w) (f : Fits w a) (g : Fits w b) where
  pub fits_add : Fits (w + 1) (a +ℤ b)
  fits_add = record { fits = rw (pow_more w h) (add_mag a b (2 ^ (w - 1)) f.fits g.fits) }

  pub fits_sub : Fits (w + 1) (a -ℤ b)
  fits_sub = record { fits = rw (pow_more w h) (minus-mag a b (2 ^ (w - 1)) f.fits g.fits) }

-- ---- shifts

pub shift_down-fits : {w : ℕ} {z : ℤ} → Fits w z → (k : ℕ) → Fits w (shift_down k z)
unfolding shift_down
shift_down-fits {w} {z = pos n} f k = record { fits = lt_of_le_of_lt (div-le_self n (2 ^ k)) f.fits }
shift_down-fits {w} {z = negsuc n} f k = record { fits = lt_of_le_of_lt (div-le_self n (2 ^ k)) f.fits }

pub shift_up-fits : (k : ℕ) (z : ℤ) → Fits 32 (shift_up k z)
unfolding shift_up
shift_up-fits k z = wrapped-fits 32 (z *ℤ pos (2 ^ k))

neg_mag : (p B : ℕ) → zero < B → p ≤ B → mag (neg_ℤ (pos p)) < B
neg_mag zero B h k = h
neg_mag (suc p) B h k = k

pub fits_mul : {w : ℕ} {z : ℤ} → 1 ≤ w → Fits w z → (k : ℕ) → Fits (w + k) (z *ℤ pos (2 ^ k))
fits_mul {w} {z} h f k = record { fits = rw power (product z f.fits) }
  where
    power : 2 ^ (w + k - 1) ≡ 2 ^ (w - 1) * 2 ^ k
    power = ap (λ n. 2 ^ n) (let e : w + k - 1 ≡ w - 1 + k = omega arith in e) ∙ pow-add 2 (w - 1) k

    product : (y : ℤ) → mag y < 2 ^ (w - 1) → mag (y *ℤ pos (2 ^ k)) < 2 ^ (w - 1) * 2 ^ k
    product (pos n) l = mul-lt-mul_of_pos_right l (pow_pos k)
    product (negsuc n) l = neg_mag (suc n * 2 ^ k) (2 ^ (w - 1) * 2 ^ k) (mul-pos (pow_pos (w - 1)) (pow_pos k)) (mul-le-mul_right (2 ^ k) l)

-- a shift that stays within 32 bits is exact
pub shift_up-exact : {w : ℕ} {z : ℤ} → 1 ≤ w → Fits w z → (k : ℕ) → w + k ≤ 32 → shift_up k z ≡ z *ℤ pos (2 ^ k)
unfolding shift_up
shift_up-exact h f k l = wrapped_same 32 _ (omega arith) (fits-mono l (fits_mul h f k))

-- a number shifted up by 32 or more is zero in 32 bits
pub shift_up-out : (k : ℕ) (z : ℤ) → 32 ≤ k → shift_up k z ≡ pos 0
unfolding shift_up wrapped signed
shift_up-out k z h =
    ap (signed 32)
    (low_mul 32 z (2 ^ k) ∙ ap (λ x. low 32 z * x % 2 ^ 32) power ∙ ap (λ x. x % 2 ^ 32) (sym (mul_assoc (low 32 z) (2 ^ (k - 32)) (2 ^ 32)))
    ∙ mul-mod_left (low 32 z * 2 ^ (k - 32)) (2 ^ 32))
  where
    power : 2 ^ k ≡ 2 ^ (k - 32) * 2 ^ 32
    power = ap (λ n. 2 ^ n) (let e : k ≡ k - 32 + 32 = omega arith in e) ∙ pow-add 2 (k - 32) 32

-- a shift down by w - 1 or more leaves only the sign
pub shift_down_sign : {w : ℕ} {z : ℤ} → Fits w z → (j k : ℕ) → w ≤ j + 1 → w ≤ k + 1 → shift_down j z ≡ shift_down k z
unfolding shift_down
shift_down_sign {w} {z} f j k g h = go z f.fits
  where
    gone : (n i : ℕ) → n < 2 ^ (w - 1) → w ≤ i + 1 → n / 2 ^ i ≡ 0
    gone n i l e = div-eq_of_lt (lt_of_lt_of_le l (pow_mono {i = w - 1} {j = i} (omega arith)))

    go : (y : ℤ) → mag y < 2 ^ (w - 1) → shift_down j y ≡ shift_down k y
    go (pos n) l = ap pos (gone n j l g ∙ sym (gone n k l h))
    go (negsuc n) l = ap negsuc (gone n j l g ∙ sym (gone n k l h))
