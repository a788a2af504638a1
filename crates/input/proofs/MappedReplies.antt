-- A function of the number that a question gets at a place. Assumes nothing.
use Prim.Native.Nat.{ℕ}
use mathlib.Core.Path.{◌≡◌, refl, ap}
use mathlib.Core.Bool.{false}
use mathlib.Core.List.{List}
use Rattle.reading.specs.declared.Place.{Place}
use Rattle.reading.specs.Readers.{Question, Ask, ask, done, Reply, found, cut, reply}
use Rattle.reading.specs.Bytes.{bits_of_bytes}
use Rattle.reading.specs.Places.{At, got_at, short_at, run_at, inside, position, place_of}
use Rattle.reading.proofs.ByteRuns.{In, run_at-ask, run_at-out, of_reply}
use Rattle.input.specs.Answers.{map_at}

module _ (f : ℕ → ℕ) where
  pub map_reply : Reply → At ℕ
  map_reply x = map_at f (of_reply x)

  pub map_reply-found : (v j : ℕ) → map_reply (found v j) ≡ got_at (f v) (place_of j)
  unfolding map_reply map_at of_reply
  map_reply-found v j = refl

  pub map_reply-cut : map_reply cut ≡ short_at
  unfolding map_reply map_at of_reply
  map_reply-cut = refl

  pub ask_in : (q : Question) {s : List ℕ} {at : Place} → In s at → map_at f (run_at (ask q done) s at) ≡ map_reply (reply q (bits_of_bytes s) (position at))
  unfolding map_reply
  ask_in q h = ap (map_at f) (run_at-ask q h)

  pub ask_out : (q : Ask ℕ) (s : List ℕ) (at : Place) → inside s at ≡ false → map_at f (run_at q s at) ≡ short_at
  unfolding map_at
  ask_out q s at e = ap (map_at f) (run_at-out q s at e)
