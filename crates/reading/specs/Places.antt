-- A reader's run on bytes, from a place. At a place outside the input every reader is cut short, so no caller has to
-- check the place first.
use Rattle.std.specs.Prelude.{ℕ, ◌+◌, ◌*◌, ◌/◌, ◌%◌, Bool, ◌&&◌, List, leb, ltb, length, if◌then◌else◌}
use Rattle.reading.specs.declared.Place.{Place}
use Rattle.reading.specs.Readers.{Ask, RunResult, got, refused, short, run}
use Rattle.reading.specs.Bytes.{bits_of_bytes}

abbrev pub position : Place → ℕ
position p = 8 * p.byte + p.bit

abbrev pub place_of : ℕ → Place
place_of j = record { byte = j / 8; bit = j % 8 }

-- a place of the input, or right after its last byte
unfoldable pub inside : List ℕ → Place → Bool
inside s p = ltb p.bit 8 && leb (position p) (8 * length s)

pub data At (A : Type 0) : Type 0 where
  got_at : A → Place → At A
  refused_at : ℕ → At A
  short_at : At A

unfoldable pub to_at : {A : Type 0} → RunResult A → At A
to_at (got a j) = got_at a (place_of j)
to_at (refused n j) = refused_at n
to_at short = short_at

-- what a reader gets from the bytes of an input, starting at a place
unfoldable pub run_at : {A : Type 0} → Ask A → List ℕ → Place → At A
run_at p s at = if inside s at then to_at (run p (bits_of_bytes s) (position at)) else short_at

-- the next step gets the value and the place after it; a refusal or a short input ends the reading
unfoldable pub and_then : {A B : Type 0} → At A → (A → Place → At B) → At B
and_then (got_at a at) k = k a at
and_then (refused_at n) k = refused_at n
and_then short_at k = short_at
