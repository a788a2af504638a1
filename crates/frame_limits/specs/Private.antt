-- The settings without the count of the samples. Only contracts of private functions name it, so nobody has to believe
-- it.
use Rattle.std.specs.Prelude.{Bool, ◌&&◌, leb, ltb}
use Rattle.rfc9639.specs.declared.FrameSetting.{FrameSetting}
use Rattle.rfc9639.specs.HeaderCodes.{largest_block_size}
use Rattle.rfc9639.specs.Write.{writable, number_limit}

-- each setting is one that a frame can have
unfoldable pub in_range : FrameSetting → Bool
in_range set =
    leb set.channels 10 && writable set.bits && leb set.blocking 1 && ltb 0 set.size && leb set.size largest_block_size
    && leb set.number (number_limit set.blocking)
