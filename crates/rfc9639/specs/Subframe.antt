-- The subframe (RFC 9639 section 9.2): one channel of a block.
use Rattle.std.specs.Prelude.{ℕ, ◌+◌, ◌-◌, ◌&&◌, List, map, leb, ltb, eqb, ℤ, replicate, if◌then◌else◌}
use Rattle.reading.specs.Readers.{Ask, done, stop, ◌>>=◌, ◌>>◌, bits, zeros, require, many}
use Rattle.rfc9639.specs.declared.SubframeType.{SubframeType}
use Rattle.rfc9639.specs.declared.SubframeType.TheVariants.{Constant, Verbatim, Fixed, Lpc}
use Rattle.rfc9639.specs.declared.SubframeHeader.{SubframeHeader}
use Rattle.rfc9639.specs.Integers.{signed_bits, shift_up}
use Rattle.rfc9639.specs.Residual.{residual}
use Rattle.rfc9639.specs.Prediction.{predict, fixed_coefficients}

-- Section 9.2.1: the type by its code. Reserved codes are refused.
unfoldable pub subframe_type : ℕ → Ask SubframeType
subframe_type code =
    if eqb code 0 then done Constant
    else if eqb code 1 then done Verbatim
    else if ltb code 8 then stop 4
    else if leb code 12 then done (Fixed (code - 8))
    else if ltb code 32 then stop 4
    else done (Lpc (code - 31))

-- Section 9.2.2: a flag and, where it is set, the count less one in unary.
unfoldable pub wasted_bits : Ask ℕ
wasted_bits = do
  flag ← bits 1
  if eqb flag 0 then done 0 else (do z ← zeros; done (z + 1))

-- the wasted bits: at most 31, and fewer than the bits of the channel's samples
unfoldable pub checked_wasted_bits : ℕ → Ask ℕ
checked_wasted_bits width = do
  wasted ← wasted_bits
  require (leb wasted 31 && ltb wasted width) 9
  done wasted

-- the rest of a subframe's header, after its reserved zero bit
unfoldable pub kind_and_wasted : ℕ → Ask SubframeHeader
kind_and_wasted width = do
  code ← bits 6
  kind ← subframe_type code
  wasted ← checked_wasted_bits width
  done (record { kind = kind; wasted = wasted })

unfoldable pub subframe_header : ℕ → Ask SubframeHeader
subframe_header width = do
  reserved ← bits 1
  require (eqb reserved 0) 4
  kind_and_wasted width

-- how many warm-up samples a predictor starts from
unfoldable pub order_of : SubframeType → ℕ
order_of Constant = 0
order_of Verbatim = 0
order_of (Fixed k) = k
order_of (Lpc k) = k

-- Section 9.2.5: the warm-up samples of w bits, then the residual.
unfoldable pub fixed : ℕ → ℕ → ℕ → Ask (List ℤ)
fixed order w n = do
  warm ← many order (signed_bits w)
  res ← residual order n
  done (predict (fixed_coefficients order) 0 warm res)

-- Section 9.2.6: the coefficients' precision in bits, stored less one, where 15 is forbidden; and the shift. A negative
-- shift is not supported.
unfoldable pub quantization : Ask (ℕ × ℕ)
quantization = do
  precision ← bits 4
  require (ltb precision 15) 4
  shift ← bits 5
  require (ltb shift 16) 8
  done (precision + 1, shift)

-- the coefficients, the latest sample's first, then the residual
unfoldable pub lpc_after_shift : ℕ → ℕ → ℕ → List ℤ → ℕ → Ask (List ℤ)
lpc_after_shift order precision shift warm n = do
  coefficients ← many order (signed_bits precision)
  res ← residual order n
  done (predict coefficients shift warm res)

unfoldable pub lpc : ℕ → ℕ → ℕ → Ask (List ℤ)
lpc order w n = do
  warm ← many order (signed_bits w)
  (precision, shift) ← quantization
  lpc_after_shift order precision shift warm n

-- n samples of w bits, by type (sections 9.2.3 to 9.2.6)
unfoldable pub samples_by_type : SubframeType → ℕ → ℕ → Ask (List ℤ)
samples_by_type Constant w n = do
  x ← signed_bits w
  done (replicate n x)
samples_by_type Verbatim w n = many n (signed_bits w)
samples_by_type (Fixed k) w n = fixed k w n
samples_by_type (Lpc k) w n = lpc k w n

-- A channel of n samples, after its header. Samples are stored without their wasted bits, and get them back as zeros at
-- the low end.
unfoldable pub subframe_after_header : ℕ → ℕ → SubframeHeader → Ask (List ℤ)
subframe_after_header n width h = do
  require (leb (order_of h.kind) n) 9
  xs ← samples_by_type h.kind (width - h.wasted) n
  done (map (shift_up h.wasted) xs)

-- a channel of n samples of `width` bits
unfoldable pub subframe : ℕ → ℕ → Ask (List ℤ)
subframe n width = do
  h ← subframe_header width
  subframe_after_header n width h
