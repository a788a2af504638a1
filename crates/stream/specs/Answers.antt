-- What the answers of the public functions mean, in the words of the definition. A number of bytes is the place after
-- them. And an MD5 as bytes.
use Rattle.std.specs.Prelude.{ℕ, zero, suc, ◌/◌, ◌%◌, ◌^◌, Bool, List, [], ◌∷◌, ◌++◌, Result, Ok, Err}
use Rattle.reading.specs.Places.{At, got_at}
use Rattle.error.specs.declared.Refusal.{Refusal}
use Rattle.error.specs.Numbers.{refused_by}
use Rattle.rfc9639.specs.declared.Md5.{Md5}
use Rattle.rfc9639.specs.declared.StreamInfo.{StreamInfo}

abbrev pub stream_at : Result (StreamInfo × ℕ) Refusal → At StreamInfo
stream_at (Ok r) = got_at r.0 (record { byte = r.1; bit = 0 })
stream_at (Err e) = refused_by e

abbrev pub start_at : Result (Bool × StreamInfo × ℕ) Refusal → At (Bool × StreamInfo)
start_at (Ok r) = got_at (r.0, r.1) (record { byte = r.2; bit = 0 })
start_at (Err e) = refused_by e

-- the n bytes of a number, the first one the most significant
abbrev pub bytes_from : ℕ → ℕ → List ℕ
bytes_from zero v = []
bytes_from (suc n) v = v / 256 ^ n % 256 ∷ bytes_from n v

-- the 16 bytes of an MD5
abbrev pub md5_bytes : Md5 → List ℕ
md5_bytes sum = bytes_from 8 sum.high ++ bytes_from 8 sum.low
