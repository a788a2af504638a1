-- The choice for a channel, by the definition.
use Rattle.std.specs.Prelude.{ℕ, List, ℤ}
use Rattle.rfc9639.specs.SubframeCoding.{cost, chosen}
use Rattle.subframe_choice.specs.declared.Choice.{Choice}

-- the candidate chosen, with its bits
unfoldable pub choice_of : ℕ → List ℤ → Choice
choice_of w xs = record { candidate = chosen w xs; bits = cost w xs (chosen w xs) }
