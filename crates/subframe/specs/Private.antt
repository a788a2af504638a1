-- What the answers of the private functions mean in the definition, and what these functions ask of each other. Only
-- contracts of private functions name it, so nobody has to believe it.
use Rattle.std.specs.Prelude.{ℕ, ◌+◌, ◌*◌, ◌^◌, ◌≤◌, ◌<◌, List, ℤ, length, take, drop, Result, Ok, Err}
use Rattle.reading.specs.declared.Place.{Place}
use Rattle.reading.specs.Readers.{Ask, done, stop, ◌>>=◌}
use Rattle.reading.specs.Places.{At, got_at, place_of}
use Rattle.error.specs.declared.Refusal.{Refusal}
use Rattle.error.specs.Numbers.{number_of, refused_by}
use Rattle.number.specs.Private.{Small}
use Rattle.rfc9639.specs.declared.SubframeType.{SubframeType}
use Rattle.rfc9639.specs.declared.SubframeType.TheVariants.{Constant, Verbatim, Fixed, Lpc}
use Rattle.rfc9639.specs.Residual.{residual}
use Rattle.rfc9639.specs.Prediction.{predict}
use Rattle.rfc9639.specs.Subframe.{lpc_after_shift}
use Rattle.subframe.specs.declared.bit_offset.BitOffset.{BitOffset}

-- ---- the header

-- a code alone is known or refused
abbrev pub kind_ask : Result SubframeType Refusal → Ask SubframeType
kind_ask (Ok k) = done k
kind_ask (Err e) = stop (number_of e)

-- ---- what follows it

-- the orders that a header can state
abbrev pub Orderly : SubframeType → Type 0
Orderly Constant = Unit {0}
Orderly Verbatim = Unit {0}
Orderly (Fixed k) = k ≤ 4
Orderly (Lpc k) = k ≤ 32

-- ---- the precision and the shift

-- a precision in bits, and a shift
abbrev pub Quantization : Type 0
Quantization = ℕ × ℕ

-- ---- one residual

-- the place so many bits after a byte
abbrev pub place_after : BitOffset → Place
place_after o = place_of (8 * o.byte + o.bits)

abbrev pub rice_read_at : Result (ℤ × BitOffset) Refusal → At ℤ
rice_read_at (Ok r) = got_at r.0 (place_after r.1)
rice_read_at (Err e) = refused_by e

-- the next code starts fewer bits after the byte than a word has
abbrev pub StartsInWord : Result (ℤ × BitOffset) Refusal → Type 0
StartsInWord (Ok r) = r.1.bits < 64
StartsInWord (Err e) = Unit {0}

-- ---- prediction

-- at most `most` coefficients, no more than the block has samples, each small enough for exact sums
abbrev pub Predictable : ℕ → List ℤ → List ℤ → Type 0
Predictable most coefficients block = (length coefficients ≤ most) × (length coefficients ≤ length block) × Small (2 ^ 15) coefficients

-- a block that holds its warm-up samples and its residual, with the residual replaced by the samples
abbrev pub predicted_in_place : List ℤ → ℕ → List ℤ → List ℤ
predicted_in_place coefficients shift block = predict coefficients shift (take (length coefficients) block) (drop (length coefficients) block)

-- what follows the coefficients, for a block that starts with its warm-up samples
abbrev pub predicted_block : List ℤ → ℕ → List ℤ → Ask (List ℤ)
predicted_block coefficients shift block = do
  res ← residual (length coefficients) (length block)
  done (predict coefficients shift (take (length coefficients) block) res)

-- what follows the shift, for the same block
abbrev pub lpc_block : ℕ → ℕ → ℕ → List ℤ → Ask (List ℤ)
lpc_block order precision shift block = lpc_after_shift order precision shift (take order block) (length block)
