-- The writer's arguments and answers in document 01's words.
use Rattle.std.specs.Prelude.{List, ℕ, Result, Ok, Err}
use Rattle.error.specs.declared.Refusal.{Refusal}
use Rattle.error.specs.Numbers.{number_of}
use Rattle.rfc9639.specs.declared.FrameSetting.{FrameSetting}
use Rattle.rfc9639.specs.Write.{Written, unwritten}

-- the settings of a frame, from the writer's arguments
abbrev pub setting_of : ℕ → ℕ → ℕ → ℕ → ℕ → FrameSetting
setting_of channels bits blocking number size = record { channels = channels; bits = bits; blocking = blocking; number = number; size = size }

-- an answer, with the output that it leaves
abbrev pub outcome : Result ℕ Refusal → List ℕ → Written
outcome (Ok n) out = record { number = 0; length = n; output = out }
outcome (Err e) out = unwritten (number_of e) out
