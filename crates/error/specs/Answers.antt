-- A reader's answer in the definition's words: a value and the place after it, the place alone, or a refusal.
use Rattle.std.specs.Prelude.{Result, Ok, Err}
use Rattle.reading.specs.declared.Place.{Place}
use Rattle.reading.specs.Places.{At, got_at}
use Rattle.error.specs.declared.Refusal.{Refusal}
use Rattle.error.specs.Numbers.{refused_by}

abbrev pub read_at : {A : Type 0} → Result (A × Place) Refusal → At A
read_at (Ok r) = got_at r.0 r.1
read_at (Err e) = refused_by e

abbrev pub passed_at : Result Place Refusal → At (Unit {0})
passed_at (Ok p) = got_at tt p
passed_at (Err e) = refused_by e
