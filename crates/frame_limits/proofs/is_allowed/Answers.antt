-- The settings, and as many samples as they ask for. Assumes nothing.
use mathlib.Core.Path.{sym, ◌∙◌}
use Rattle.rfc9639.specs.Write.{allowed}
use Rattle.rfc9639.proofs.Lists.{channels_between}
use Rattle.frame_limits.specs.Private.{in_range}
use Rattle.frame_limits.proofs.SettingTests.{count_fits, size_within}
use Rattle.frame_limits.proofs.is_allowed.Goals as goal

pub overflow_mul-result : goal.overflow_mul-result
overflow_mul-result c = record { fits = count_fits _ _ (rw c.channels_of_code.ensures (channels_between _).1) (size_within _ (sym c.is_in_range.ensures ∙ c.if-is_in_range.true)) }

pub returns-then-is_in_range : goal.returns-then-is_in_range
unfolding allowed in_range
returns-then-is_in_range c = rw (sym c.is_in_range.ensures ∙ c.if-is_in_range.true, c.channels_of_code.ensures)

pub returns-else-is_in_range : goal.returns-else-is_in_range
unfolding allowed in_range
returns-else-is_in_range c = rw (sym c.is_in_range.ensures ∙ c.if-is_in_range.false) c.if-is_in_range.false
