-- The reader's answer as a report of document 01, and what it has to be.
use Rattle.std.specs.Prelude.{◌≡◌, List, ℤ, Result, Ok, Err}
use Rattle.error.specs.declared.Refusal.{Refusal}
use Rattle.error.specs.Numbers.{number_of}
use Rattle.rfc9639.specs.Read.{Report, refusal, Outcome}
use Rattle.frame.specs.declared.Accepted.{Accepted}

abbrev pub report_of : Result Accepted Refusal → Report
report_of (Ok f) = record {
  number = 0;
  consumed = f.consumed;
  first = f.first;
  rate = f.rate;
  channels = f.channels;
  bits = f.bits;
  size = f.size;
}
report_of (Err e) = refusal (number_of e)

-- the answer and the buffer are those of the definition
pub record Reads (o : Outcome) (r : Result Accepted Refusal) (left : List ℤ) : Type 0 where
  pub report : report_of r ≡ o.report
  pub samples : left ≡ o.buffer
