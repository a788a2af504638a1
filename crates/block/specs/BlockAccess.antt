-- What access to a block's samples answers. The `channels` times `size` samples are stored channel after channel.
use Rattle.std.specs.Prelude.{ℕ, ◌+◌, ◌*◌, ◌&&◌, List, leb, ltb, eqb, ℤ, pos, length, get_or, Result, Ok, Err, if◌then◌else◌}
use Rattle.error.specs.declared.Refusal.{Refusal}
use Rattle.block.specs.declared.Block.{Block}

-- where the samples start and end. The channel must be one of the block's, and n samples must be enough for the block
unfoldable pub channel_of : ℕ → Block → ℕ → Result (ℕ × ℕ) Refusal
channel_of n b channel =
    if ltb channel b.channels && leb (b.channels * b.size) n then Ok (channel * b.size, channel * b.size + b.size)
    else Err Refusal.BadArgument

unfoldable pub sample_of : List ℤ → Block → ℕ → ℕ → Result ℤ Refusal
sample_of l b channel index =
    if ltb index b.size && (ltb channel b.channels && leb (b.channels * b.size) (length l)) then Ok (get_or l (channel * b.size + index) (pos 0))
    else Err Refusal.BadArgument

-- the left sample and the right
unfoldable pub pair_of : List ℤ → Block → ℕ → Result (ℤ × ℤ) Refusal
pair_of l b index =
    if eqb b.channels 2 && (ltb index b.size && leb (b.channels * b.size) (length l)) then Ok (get_or l index (pos 0), get_or l (b.size + index) (pos 0))
    else Err Refusal.BadArgument
