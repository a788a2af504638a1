-- One step of reading frame by frame: the definition's answer and buffer for the bytes from a place on, and the place
-- after the bytes that the answer consumed. A refusal consumes none.
use Rattle.std.specs.Prelude.{ℕ, ◌+◌, ◌≡◌, List, ℤ, drop}
use Rattle.rfc9639.specs.declared.Settings.{Settings}
use Rattle.rfc9639.specs.Read.{read}
use Rattle.frame.specs.Reads.{Reads}
use Rattle.walk.specs.declared.Step.{Step}

pub record Steps (s : List ℕ) (place : ℕ) (set : Settings) (b : List ℤ) (r : Step) (left : List ℤ) : Type 0 where
  pub answer : Reads (read set (drop place s) b) r.answer left
  pub next : r.place ≡ place + (read set (drop place s) b).report.consumed
