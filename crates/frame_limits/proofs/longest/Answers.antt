-- The tests of the settings, and the longest length. Assumes nothing.
use mathlib.Core.Path.{ap, sym, ◌∙◌}
use Prim.Native.Nat.{◌+◌, ◌/◌}
use Rattle.rfc9639.specs.Write.{frame_bound}
use Rattle.rfc9639.proofs.AllowedSettings.{allowed_facts}
use Rattle.frame_limits.proofs.SettingTests.{allowed_wanted}
use Rattle.frame_limits.proofs.LongestLength.{longest-some, longest-none}
use Rattle.frame_limits.proofs.longest.Goals as goal

pub most_bits-requires : goal.most_bits-requires
most_bits-requires c =
    let a = allowed_facts _ _ (allowed_wanted _ ∙ sym c.is_in_range.ensures ∙ c.if-is_in_range.true) in
    (a.depth.most, a.most)

pub returns-then-is_in_range : goal.returns-then-is_in_range
unfolding frame_bound
returns-then-is_in_range c =
    ap (λ n. 16 + (n + 7) / 8) c.most_bits.ensures.0 ∙ sym (longest-some _ (allowed_wanted _ ∙ sym c.is_in_range.ensures ∙ c.if-is_in_range.true))

pub returns-else-is_in_range : goal.returns-else-is_in_range
returns-else-is_in_range c = sym (longest-none _ (allowed_wanted _ ∙ sym c.is_in_range.ensures ∙ c.if-is_in_range.false))
