-- The result of writing a frame's header into some bytes.
use Rattle.std.specs.Prelude.{ℕ, ◌*◌, List, leb, length, if◌then◌else◌}
use Rattle.rfc9639.specs.declared.FrameSetting.{FrameSetting}
use Rattle.rfc9639.specs.Write.{header_bits}
use Rattle.bit_writer.specs.PenWrites.{State, inked, fresh}

-- the header, if there is room for it; else nothing
unfoldable pub header_written : FrameSetting → List ℕ → State
header_written set s = if leb (length (header_bits set)) (8 * length s) then inked (header_bits set) fresh s else record { pen = fresh; bytes = s }
