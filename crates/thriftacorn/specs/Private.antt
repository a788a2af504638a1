-- What a private function answers. Only the contract of that function names it.
use Rattle.std.specs.Prelude.{ℕ, Result, Ok, Err}
use Rattle.error.specs.declared.Refusal.{Refusal}
use Rattle.error.specs.Numbers.{number_of}

abbrev pub numbered : {A : Type 0} → Result A Refusal → A → ℕ × A
numbered (Ok value) nothing = (0, value)
numbered (Err e) nothing = (number_of e, nothing)
