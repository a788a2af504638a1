-- The bits that are written of a channel.
use Rattle.std.specs.Prelude.{ℕ, List, [], leb, ℤ, if◌then◌else◌}
use Rattle.rfc9639.specs.declared.Candidate.{Candidate}
use Rattle.rfc9639.specs.SubframeCoding.{coded_as}

-- Samples have at most 64 bits: nothing is written of wider ones.
unfoldable pub written_as : Candidate → ℕ → List ℤ → List ℕ
written_as c w xs = if leb w 64 then coded_as c w xs else []
