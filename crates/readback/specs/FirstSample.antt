-- The number of a written frame's first sample (RFC 9639 section 9.1.5), by the block size given for the stream.
use Rattle.std.specs.Prelude.{ℕ, ◌*◌, Option, Some, None, eqb, if◌then◌else◌}
use Rattle.rfc9639.specs.declared.FrameSetting.{FrameSetting}

-- With fixed blocking the frame's number counts blocks of the stream's size, whatever the frame's own.
unfoldable pub first_of_fixed : Option ℕ → FrameSetting → Option ℕ
first_of_fixed None set = None
first_of_fixed (Some size) set = Some (size * set.number)

-- With variable blocking the frame carries the number itself.
unfoldable pub first_of : Option ℕ → FrameSetting → Option ℕ
first_of block set = if eqb set.blocking 0 then first_of_fixed block set else Some set.number
