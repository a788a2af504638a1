-- The settings under which a written frame is read back (RFC 9639 section 9.1): those that a stream can have, if the bits
-- of the stream's record, where there is one, are the frame's, and under fixed blocking the size given for the stream's
-- blocks, where it is known, is not below the frame's.
use Rattle.std.specs.Prelude.{ℕ, Option, Some, None, Bool, true, ◌&&◌, leb, eqb, if◌then◌else◌}
use Rattle.rfc9639.specs.declared.FrameSetting.{FrameSetting}
use Rattle.rfc9639.specs.declared.Settings.{Settings}
use Rattle.rfc9639.specs.Stream.{possible, bits_fit}

unfoldable pub not_below : Option ℕ → ℕ → Bool
not_below None own = true
not_below (Some size) own = leb own size

unfoldable pub readable : Settings → FrameSetting → Bool
readable given set =
    possible given && (bits_fit given.stream set.bits && (if eqb set.blocking 0 then not_below given.block set.size else true))
