-- The coded number (RFC 9639 section 9.1.5), one to seven bytes in an extended UTF-8. Forms longer than needed are
-- accepted. A number has at most 36 bits, so none starts with the byte FF.
use Rattle.std.specs.Prelude.{ℕ, zero, suc, ◌+◌, ◌*◌, ◌/◌, ◌%◌, ltb, eqb, if◌then◌else◌}
use Rattle.reading.specs.Readers.{Ask, done, stop, ◌>>=◌, ◌>>◌, bits, require}

-- n follower bytes 10xxxxxx, each with six more bits of the number; v is the number so far
unfoldable pub with_followers : ℕ → ℕ → Ask ℕ
with_followers zero v = done v
with_followers (suc n) v = do
  b ← bits 8
  require (eqb (b / 64) 2) 5
  with_followers n (v * 64 + b % 64)

-- the number, after its first byte b; the leading ones of b say how many bytes follow
unfoldable pub number_from : ℕ → Ask ℕ
number_from b =
    if ltb b 0x80 then done b
    else if ltb b 0xc0 then stop 5
    else if ltb b 0xe0 then with_followers 1 (b % 32)
    else if ltb b 0xf0 then with_followers 2 (b % 16)
    else if ltb b 0xf8 then with_followers 3 (b % 8)
    else if ltb b 0xfc then with_followers 4 (b % 4)
    else if ltb b 0xfe then with_followers 5 (b % 2)
    else if ltb b 0xff then with_followers 6 0
    else stop 5

unfoldable pub coded_number : Ask ℕ
coded_number = do
  b ← bits 8
  number_from b
