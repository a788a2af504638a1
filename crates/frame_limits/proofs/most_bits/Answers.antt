-- The bits of each channel, and the extra bits of a side channel. Assumes nothing.
use native.Mathlib.Omega.{arith}
use mathlib.Core.Path.{◌≡◌, ap, ◌∙◌}
use Prim.Native.Nat.{ℕ, ◌+◌, ◌*◌, ◌≤◌}
use Rattle.rfc9639.specs.HeaderCodes.{largest_block_size, assignment, channel_count}
use Rattle.frame_limits.proofs.MostBits.{each_fits, all-fits, most_independent, most-pair}
use Rattle.frame_limits.proofs.most_bits.Goals as goal

pub overflow_mul-each : goal.overflow_mul-each
overflow_mul-each c = record { fits = omega (arith, each_fits _ _ c.requires.0 c.requires.1) }

pub overflow_add-each : goal.overflow_add-each
overflow_add-each c = record { fits = omega (arith, each_fits _ _ c.requires.0 c.requires.1) }

within : (code b n : ℕ) {k : ℕ} → b ≤ 24 → n ≤ largest_block_size → k ≡ channel_count (assignment code) → k * (8 + n * b) ≤ 12582784
within code b n h l e = rw e (all-fits code _ (omega (arith, each_fits b n h l)))

pub overflow_mul-all : goal.overflow_mul-all
overflow_mul-all c = record { fits = omega (arith, within _ _ _ c.requires.0 c.requires.1 c.channels_of_code.ensures) }

pub overflow_add-result : goal.overflow_add-result
overflow_add-result c = record { fits = omega (arith, within _ _ _ c.requires.0 c.requires.1 c.channels_of_code.ensures) }

pub returns-then-set-lt8 : goal.returns-then-set-lt8
returns-then-set-lt8 c =
    let s = c.args.set in
    (ap (λ m. m * (8 + s.size * s.bits)) c.channels_of_code.ensures ∙ most_independent s.bits s.size _ c.if-set-lt8.true, omega (arith, within _ _ _ c.requires.0 c.requires.1 c.channels_of_code.ensures))

pub returns-else-set-lt8 : goal.returns-else-set-lt8
returns-else-set-lt8 c =
    let s = c.args.set in
    (ap (λ m. m * (8 + s.size * s.bits) + s.size) c.channels_of_code.ensures ∙ most-pair s.bits s.size _ c.if-set-lt8.false, omega (arith, within _ _ _ c.requires.0 c.requires.1 c.channels_of_code.ensures))
