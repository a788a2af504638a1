-- What the answers of `block_size` and `bit_depth` mean, in the words of the definition.
use Rattle.std.specs.Prelude.{ℕ, ◌+◌, Result, Ok, Err, ltb}
use Rattle.reading.specs.Readers.{Ask, done, stop, ◌>>=◌, ◌>>◌, bits, require}
use Rattle.error.specs.declared.Refusal.{Refusal}
use Rattle.error.specs.Numbers.{number_of}
use Rattle.rfc9639.specs.HeaderCodes.{largest_block_size}
use Rattle.header_codes.specs.declared.BlockSize.{BlockSize}

abbrev pub size_ask : BlockSize → Ask ℕ
size_ask (BlockSize.Samples n) = done n
size_ask BlockSize.InByte = do v ← bits 8; done (v + 1)
size_ask BlockSize.InTwoBytes = do v ← bits 16; require (ltb v largest_block_size) 4; done (v + 1)

abbrev pub depth_ask : Result ℕ Refusal → Ask ℕ
depth_ask (Ok n) = done n
depth_ask (Err e) = stop (number_of e)
