-- `best_plain` meets its contract: constant and verbatim have the bits that the definition says. Assumes nothing.
use Prim.Native.Nat.{ℕ, ◌+◌, ◌*◌, min}
use native.Mathlib.Omega.{arith}
use mathlib.Core.Path.{◌≡◌, ap, ◌∙◌}
use Rattle.subframe_choice.proofs.CandidateBits.{plain-verbatim, plain-constant}
use Rattle.subframe_choice.proofs.plain.best_plain.Goals as goal

pub plain_bits-requires : goal.plain_bits-requires
plain_bits-requires c = c.len-count.ensures.1

-- the bits of so many samples
bits_of_length : (w : ℕ) {b n m : ℕ} → b ≡ 8 + n * w → n ≡ m → b ≡ 8 + m * w
bits_of_length w e f = e ∙ ap (λ m. 8 + m * w) f

at_most_one : {a b c : ℕ} → a ≡ min b 1 → b ≡ c → a ≡ min 1 c
at_most_one e f = omega arith

pub returns-then-not-is_uniform : goal.returns-then-not-is_uniform
returns-then-not-is_uniform c = plain-verbatim _ _ (bits_of_length _ c.plain_bits.ensures c.len-count.ensures.0) (cc)

pub returns : goal.returns
returns c =
    plain-constant _ _ (bits_of_length _ c.plain_bits.ensures c.len-count.ensures.0) (cc)
    (bits_of_length _ c.plain_bits-2.ensures (at_most_one c.min.ensures c.len-count.ensures.0))
    c.better.ensures
