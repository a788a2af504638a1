-- The length that no frame with some settings exceeds.
use Rattle.std.specs.Prelude.{ℕ, ◌*◌, if◌then◌else◌}
use Rattle.rfc9639.specs.declared.FrameSetting.{FrameSetting}
use Rattle.rfc9639.specs.HeaderCodes.{assignment, channel_count}
use Rattle.rfc9639.specs.Write.{allowed, frame_bound}

-- for as many samples as the settings ask for; 0 where no frame can have such settings
unfoldable pub longest_of : FrameSetting → ℕ
longest_of set = if allowed set (channel_count (assignment set.channels) * set.size) then frame_bound set else 0
