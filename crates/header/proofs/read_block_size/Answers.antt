-- The size of a block by its code, as the definition reads it. Assumes nothing.
use Prim.Native.Nat.{ℕ, ◌%◌, ◌<◌}
use borrow.Author.Tests.{lt-ltb, le-ltb}
use native.Mathlib.Nat.{mod-eq_of_lt}
use native.Mathlib.Omega.{arith}
use mathlib.Core.Path.{◌≡◌, refl, ap, sym, ◌∙◌}
use lib.Dec.{ltb}
use Rattle.reading.specs.Readers.{Ask, bits}
use Rattle.reading.proofs.ByteRuns.{inside_in, run_at-out, run_at-done, bits_below}
use Rattle.error.proofs.Refusals.{bind_refusal}
use Rattle.rfc9639.specs.HeaderCodes.{block_size}
use Rattle.header.proofs.ReaderSteps.{bits_read, exits_by, then_done, check_fails, check_done}
use Rattle.header.proofs.read_block_size.Goals as goal

pub returns-then-not-is_inside : goal.returns-then-not-is_inside
returns-then-not-is_inside c = sym (run_at-out _ _ _ (cc))

-- what a code says, by the arm that a match took
code-says : (code : ℕ) {x : Ask ℕ} → code < 16 → x ≡ block_size (code % 16) → block_size code ≡ x
code-says code h e = ap block_size (sym (mod-eq_of_lt h)) ∙ sym e

pub returns-in-Samples : goal.returns-in-Samples
returns-in-Samples c = rw (code-says _ c.requires c.in-Samples.ensures) (sym (run_at-done _ (inside_in _ _ (cc))))

pub returns-in_err-v-in-InByte : goal.returns-in_err-v-in-InByte
returns-in_err-v-in-InByte c =
    rw (code-says _ c.requires c.in-InByte.ensures)
    (exits_by _ _ c.from_residual.ensures.1 (bind_refusal (bits 8) _ _ _ _ (bits_read 8 _ _ refl c.in_err-v-in-InByte.ensures)))

pub overflow_add-result : goal.overflow_add-result
overflow_add-result c = omega (arith, bits_below 8 _ _ (bits_read 8 _ _ refl c.in_ok-v-in-InByte.ensures))

pub returns-in_ok-v-in-InByte : goal.returns-in_ok-v-in-InByte
returns-in_ok-v-in-InByte c = rw (code-says _ c.requires c.in-InByte.ensures) (sym (then_done (bits 8) _ _ _ (bits_read 8 _ _ refl c.in_ok-v-in-InByte.ensures)))

pub returns-in_err-v-in-InTwoBytes : goal.returns-in_err-v-in-InTwoBytes
returns-in_err-v-in-InTwoBytes c =
    rw (code-says _ c.requires c.in-InTwoBytes.ensures)
    (exits_by _ _ c.from_residual-in_err-v-in-InTwoBytes.ensures.1 (bind_refusal (bits 16) _ _ _ _ (bits_read 16 _ _ refl c.in_err-v-in-InTwoBytes.ensures)))

pub returns-then-v : goal.returns-then-v
returns-then-v c =
    rw (code-says _ c.requires c.in-InTwoBytes.ensures)
    (sym (check_fails (bits 16) _ _ (λ x. ltb x 65535) 4 (bits_read 16 _ _ refl c.in_ok-v-in-InTwoBytes.ensures) _ (le-ltb c.in_ok-v-in-InTwoBytes.v 65535 (omega arith))))

pub overflow_add-result-in-InTwoBytes : goal.overflow_add-result-in-InTwoBytes
overflow_add-result-in-InTwoBytes c = omega (arith, bits_below 16 _ _ (bits_read 16 _ _ refl c.in_ok-v-in-InTwoBytes.ensures))

pub returns-else-v : goal.returns-else-v
returns-else-v c =
    let e = bits_read 16 _ _ refl c.in_ok-v-in-InTwoBytes.ensures in
    rw (code-says _ c.requires c.in-InTwoBytes.ensures)
    (sym (check_done (bits 16) _ _ (λ x. ltb x 65535) 4 e _ (lt-ltb c.in_ok-v-in-InTwoBytes.v 65535 (omega (arith, bits_below 16 _ _ e)))))
