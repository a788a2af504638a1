-- The coded number, and the limit of a frame's number, as in the definition. Assumes nothing.
use native.Mathlib.Omega.{arith}
use mathlib.Core.Path.{sym}
use Rattle.error.proofs.Refusals.{bind_refusal}
use Rattle.rfc9639.specs.Number.{coded_number}
use Rattle.rfc9639.specs.Header.{block_time}
use Rattle.header.proofs.ReaderSteps.{exits_by}
use Rattle.header.proofs.HeaderParts.{frame-number-refused, frame_time, sample_time}
use Rattle.header.proofs.read_time.Goals as goal

pub returns-in_err-number : goal.returns-in_err-number
unfolding block_time
returns-in_err-number c = exits_by _ _ c.from_residual.ensures.1 (bind_refusal coded_number _ _ _ _ (sym c.in_err-number.ensures))

pub returns-then-blocking-eq1 : goal.returns-then-blocking-eq1
returns-then-blocking-eq1 c = sym (sample_time _ _ _ (sym c.in_ok-number.ensures) c.if-blocking-eq1.true)

pub returns-then-number-gt-LARGEST_FRAME_NUMBER : goal.returns-then-number-gt-LARGEST_FRAME_NUMBER
returns-then-number-gt-LARGEST_FRAME_NUMBER c = sym (frame-number-refused _ _ _ (sym c.in_ok-number.ensures) (omega arith) c.if-number-gt-LARGEST_FRAME_NUMBER.true)

pub returns : goal.returns
returns c = sym (frame_time _ _ _ (sym c.in_ok-number.ensures) (omega arith) c.if-number-gt-LARGEST_FRAME_NUMBER.false)
