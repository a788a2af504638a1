-- Words of w bits: what is kept of a number when m bits are appended to it. Assumes nothing.
use Prim.Native.Nat.{ℕ, ◌+◌, ◌*◌, ◌-◌, ◌%◌, ◌^◌, ◌≤◌, ◌<◌}
use native.Mathlib.Nat.{add_comm}
use native.Mathlib.Omega.{arith}
use mathlib.Core.Path.{◌≡◌, ap, ap₂, sym, ◌∙◌}
use lib.Pow.{mod-pow-add, mod-mod-pow, high, low}
use Rattle.reading.proofs.Words.{low-shifted}

join-low : (a j m : ℕ) {x : ℕ} → x < 2 ^ m → (a * 2 ^ m + x) % 2 ^ (j + m) ≡ a % 2 ^ j * 2 ^ m + x
join-low a j m {x} h = mod-pow-add (a * 2 ^ m + x) j m ∙ ap₂ (λ (y z : ℕ). y % 2 ^ j * 2 ^ m + z) (high a m h) (low a m h)

low-low : (a j m : ℕ) → a % 2 ^ (j + m) % 2 ^ j ≡ a % 2 ^ j
low-low a j m = ap (λ (k : ℕ). a % 2 ^ k % 2 ^ j) (add_comm j m) ∙ mod-mod-pow a m j

shift-low : (a j m : ℕ) → (a % 2 ^ (j + m) * 2 ^ m) % 2 ^ (j + m) ≡ a % 2 ^ j * 2 ^ m
shift-low a j m = low-shifted j m (a % 2 ^ (j + m)) ∙ ap (λ (y : ℕ). y * 2 ^ m) (low-low a j m)

-- a word shifted by m bits, plus the m new bits, is the word of the longer number
pub word_append : (w a m : ℕ) {x : ℕ} → m ≤ w → x < 2 ^ m → (a % 2 ^ w * 2 ^ m) % 2 ^ w + x ≡ (a * 2 ^ m + x) % 2 ^ w
word_append w a m {x} l h = rw (let e : w ≡ (w - m) + m = omega arith in e) (ap (λ (y : ℕ). y + x) (shift-low a (w - m) m) ∙ sym (join-low a (w - m) m h))
