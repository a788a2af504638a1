-- What a decoder's answer, with the samples that it left, means in the definition.
use Rattle.std.specs.Prelude.{ℕ, ◌≡◌, List, leb, ℤ, pos, replicate, Result, Ok, Err, if◌then◌else◌}
use Rattle.reading.specs.declared.Place.{Place}
use Rattle.reading.specs.Places.{At, got_at, refused_at, run_at}
use Rattle.error.specs.declared.Refusal.{Refusal}
use Rattle.error.specs.Numbers.{refused_by}
use Rattle.rfc9639.specs.Subframe.{subframe}

abbrev pub samples_at : Result Place Refusal → List ℤ → At (List ℤ)
samples_at (Ok p) left = got_at left p
samples_at (Err e) left = refused_by e

-- a channel of n samples of at most 32 bits; a greater width is a bad argument, refusal 11
unfoldable pub subframe_at : ℕ → ℕ → List ℕ → Place → At (List ℤ)
subframe_at width n s at = if leb width 32 then run_at (subframe n width) s at else refused_at 11

-- a refusal leaves zeros
abbrev pub cleared : Result Place Refusal → ℕ → List ℤ → Type 0
cleared (Ok p) n left = Unit {0}
cleared (Err e) n left = left ≡ replicate n (pos 0)

pub record Left (x : At (List ℤ)) (n : ℕ) (r : Result Place Refusal) (left : List ℤ) : Type 0 where
  pub answer : samples_at r left ≡ x
  pub stopped : cleared r n left
