-- `read_unary`: a run that ends in the first word is the leading zeros of its bits from the place on. Assumes nothing.
use native.Mathlib.Omega.{arith}
use mathlib.Core.Path.{refl, sym, ◌∙◌}
use Rattle.reading.proofs.ByteRuns.{outside_bit}
use Rattle.reading.proofs.Words.{taken_word}
use Rattle.input.specs.Answers.{counted_zeros}
use Rattle.input.proofs.MappedReplies.{ask_out}
use Rattle.input.proofs.ReadLoops.{unary-out, unary_of_word}
use Rattle.input.proofs.read_unary.Goals as goal

pub returns-then-bit-ge8 : goal.returns-then-bit-ge8
unfolding counted_zeros
returns-then-bit-ge8 c = sym (ask_out _ _ _ _ (outside_bit _ _ (omega arith)))

pub returns-then-s-byte : goal.returns-then-s-byte
returns-then-s-byte c = unary-out _ _ (omega arith)

pub returns-then-q-lt64 : goal.returns-then-q-lt64
returns-then-q-lt64 c = c.ended.ensures ∙ unary_of_word _ _ _ (omega arith) (omega arith) (taken_word c.word_at.ensures) refl c.if-q-lt64.true
