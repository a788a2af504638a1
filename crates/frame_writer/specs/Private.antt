-- What the writer plans for each subframe, and the end of a frame. Only contracts of private functions name it, so
-- nobody has to believe it.
use Rattle.std.specs.Prelude.{ℕ, ◌-◌, ◌%◌, ◌^◌, ◌≤◌, ◌≡◌, List, map, ℤ, length, take}
use Rattle.reading.specs.Bytes.{bits_of_bytes}
use Rattle.reading.specs.NumbersAsBits.{bits_of}
use Rattle.rfc9639.specs.declared.Candidate.{Candidate}
use Rattle.rfc9639.specs.declared.FrameSetting.{FrameSetting}
use Rattle.rfc9639.specs.declared.Lane.{Lane}
use Rattle.rfc9639.specs.HeaderCodes.{assignment, channel_count, largest_block_size}
use Rattle.rfc9639.specs.SubframeCoding.{coded_as}
use Rattle.rfc9639.specs.CheckSums.{crc16}
use Rattle.rfc9639.specs.Write.{lane_of, lanes, lane_width, stored, subframes_bits}
use Rattle.bit_writer.specs.declared.Pen.{Pen}
use Rattle.bit_writer.specs.PenWrites.{State, inked}
use Rattle.subframe_choice.specs.declared.Choice.{Choice}
use Rattle.subframe_choice.specs.Choices.{choice_of}

-- the settings that the functions below the tests ask for
abbrev pub InRange : FrameSetting → Type 0
InRange set = (set.channels ≤ 10) × (set.bits ≤ 24) × (set.size ≤ largest_block_size)

-- ---- each subframe

-- what subframe c stores
abbrev pub lane_for : FrameSetting → ℕ → Lane
lane_for set c = lane_of (assignment set.channels) c

-- what a lane stores, coded in a given way
abbrev pub coded_lane : Candidate → ℕ → ℕ → List ℤ → Lane → List ℕ
coded_lane candidate b n xs lane = coded_as candidate (lane_width b lane) (stored n xs lane)

-- the choice for what a lane stores
unfoldable pub lane_choice : ℕ → ℕ → List ℤ → Lane → Choice
lane_choice b n xs lane = choice_of (lane_width b lane) (stored n xs lane)

-- the first choices are those for the subframes
abbrev pub LaneChoices : FrameSetting → List ℤ → List Choice → Type 0
LaneChoices set xs choices =
    take (channel_count (assignment set.channels)) choices ≡ map (lane_choice set.bits set.size xs) (lanes (assignment set.channels))

-- those choices, and the bits of all subframes
abbrev pub Plans : FrameSetting → List ℤ → List Choice → ℕ → Type 0
Plans set xs choices bits = LaneChoices set xs choices × (bits ≡ length (subframes_bits set xs)) × (bits ≤ 2 ^ 25)

-- ---- the end of a frame (RFC 9639 section 9.3)

-- zeros up to the next whole byte
unfoldable pub filled : Pen → List ℕ → State
filled p s = inked (bits_of ((8 - p.held) % 8) 0) p s

-- the CRC-16 of all bytes before it
unfoldable pub summed : State → State
summed st = inked (bits_of 16 (crc16 (bits_of_bytes (take st.pen.byte st.bytes)))) st.pen st.bytes
