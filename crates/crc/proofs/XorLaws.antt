-- XOR, beyond what the library has of it: of single bits, of one bit of a number, regrouped. Assumes nothing.
use Prim.Native.Nat.{ℕ, zero, suc, ◌+◌, ◌*◌, ◌/◌, ◌%◌, ◌^◌, ◌<◌}
use native.Mathlib.Nat.{add-zero, add_assoc, mod-add-mod, add-mod-mod, mod-eq_of_lt}
use native.Mathlib.Omega.{arith}
use mathlib.Core.Path.{◌≡◌, refl, ap, ap₂, sym, ◌∙◌}
use lib.Arith.{bin_ind, digits_mod}
use lib.Pow.{pow_pos}
use lib.Bits.{bit_xor, differ, xor_step, xor_lt, xor_shr, xor_mod, xor_comm, xor_self, xor_block}

-- ---- of two bits

differ-sum : (x y : ℕ) → x < 2 → y < 2 → differ x y ≡ (x + y) % 2
differ-sum zero zero h k = refl
differ-sum zero (suc zero) h k = refl
differ-sum zero (suc (suc y)) h k = absurd (omega arith)
differ-sum (suc zero) zero h k = refl
differ-sum (suc zero) (suc zero) h k = refl
differ-sum (suc zero) (suc (suc y)) h k = absurd (omega arith)
differ-sum (suc (suc x)) y h k = absurd (omega arith)

differ-below : (x y : ℕ) → x < 2 → y < 2 → differ x y < 2
differ-below x y h k = let e = differ-sum x y h k in omega arith

differ_assoc : (x y z : ℕ) → x < 2 → y < 2 → z < 2 → differ (differ x y) z ≡ differ x (differ y z)
differ_assoc x y z h k l =
    differ-sum (differ x y) z (differ-below x y h k) l ∙ ap (λ (n : ℕ). (n + z) % 2) (differ-sum x y h k) ∙ mod-add-mod (x + y) 2 z
    ∙ ap (λ (n : ℕ). n % 2) (add_assoc x y z) ∙ sym (add-mod-mod x (y + z) 2) ∙ ap (λ (n : ℕ). (x + n) % 2) (sym (differ-sum y z k l))
    ∙ sym (differ-sum x (differ y z) h (differ-below y z k l))

-- ---- bit by bit

xor_lowest_bit : (a b : ℕ) → bit_xor a b % 2 ≡ differ (a % 2) (b % 2)
xor_lowest_bit a b = ap (λ (x : ℕ). x % 2) (xor_step a b) ∙ digits_mod (bit_xor (a / 2) (b / 2)) (differ-below (a % 2) (b % 2) (omega arith) (omega arith))

pub xor_sum : (x y : ℕ) → x < 2 → y < 2 → bit_xor x y ≡ (x + y) % 2
xor_sum x y h k =
    sym (mod-eq_of_lt (xor_lt 1 x y h k)) ∙ xor_lowest_bit x y ∙ ap₂ differ (mod-eq_of_lt h) (mod-eq_of_lt k) ∙ differ-sum x y h k

pub xor_bit : (a b k : ℕ) → bit_xor a b / 2 ^ k % 2 ≡ bit_xor (a / 2 ^ k % 2) (b / 2 ^ k % 2)
xor_bit a b k = ap (λ (x : ℕ). x % 2) (xor_shr a b k) ∙ xor_mod (a / 2 ^ k) (b / 2 ^ k) 1

pub xor_times_two : (a b : ℕ) → bit_xor a b * 2 ≡ bit_xor (a * 2) (b * 2)
xor_times_two a b =
    sym (add-zero (bit_xor a b * 2)) ∙ sym (xor_block 1 a b 0 0 (pow_pos 1) (pow_pos 1)) ∙ ap₂ bit_xor (add-zero (a * 2)) (add-zero (b * 2))

-- ---- regrouped

pub xor_assoc : (a b c : ℕ) → bit_xor (bit_xor a b) c ≡ bit_xor a (bit_xor b c)
xor_assoc =
    bin_ind (λ (a : ℕ). (b c : ℕ) → bit_xor (bit_xor a b) c ≡ bit_xor a (bit_xor b c)) (λ b c. refl)
    (λ a ih b c.
    xor_step (bit_xor a b) c
    ∙ ap₂ (λ (x y : ℕ). x * 2 + y)
    (ap (λ (x : ℕ). bit_xor x (c / 2)) (xor_shr a b 1) ∙ ih (b / 2) (c / 2) ∙ ap (bit_xor (a / 2)) (sym (xor_shr b c 1)))
    (ap (λ (x : ℕ). differ x (c % 2)) (xor_lowest_bit a b) ∙ differ_assoc (a % 2) (b % 2) (c % 2) (omega arith) (omega arith) (omega arith)
    ∙ ap (differ (a % 2)) (sym (xor_lowest_bit b c)))
    ∙ sym (xor_step a (bit_xor b c)))

pub xor_interchange : (a b c d : ℕ) → bit_xor (bit_xor a b) (bit_xor c d) ≡ bit_xor (bit_xor a c) (bit_xor b d)
xor_interchange a b c d =
    xor_assoc a b (bit_xor c d) ∙ ap (bit_xor a) (sym (xor_assoc b c d) ∙ ap (λ (x : ℕ). bit_xor x d) (xor_comm b c) ∙ xor_assoc c b d)
    ∙ sym (xor_assoc a c (bit_xor b d))

-- XOR with the same number twice cancels
pub xor_cancel : (a b : ℕ) → bit_xor (bit_xor a b) a ≡ b
xor_cancel a b = xor_comm (bit_xor a b) a ∙ sym (xor_assoc a a b) ∙ ap (λ (x : ℕ). bit_xor x b) (xor_self a)
