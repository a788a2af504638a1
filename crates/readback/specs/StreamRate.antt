-- The sample rate of a written frame. The writer leaves it to the stream (RFC 9639 section 9.1.2), so it is the rate in
-- the stream's record, if the reader is given one.
use Rattle.std.specs.Prelude.{ℕ, Option, Some, None}
use Rattle.rfc9639.specs.declared.StreamRecord.{StreamRecord}

unfoldable pub rate_of : Option StreamRecord → Option ℕ
rate_of None = None
rate_of (Some r) = Some r.rate
