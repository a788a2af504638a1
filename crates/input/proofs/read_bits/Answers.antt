-- `read_bits`: up to 56 bits are a middle piece of the first word. Assumes nothing.
use native.Mathlib.Omega.{arith}
use mathlib.Core.Path.{sym}
use Rattle.reading.proofs.ByteRuns.{outside_bit}
use Rattle.reading.proofs.Words.{taken_word}
use Rattle.input.specs.Answers.{low64}
use Rattle.input.proofs.MappedReplies.{ask_out}
use Rattle.input.proofs.ReadLoops.{bits_of-word}
use Rattle.input.proofs.read_bits.Goals as goal

pub returns-then-bit-ge8 : goal.returns-then-bit-ge8
unfolding low64
returns-then-bit-ge8 c = sym (ask_out _ _ _ _ (outside_bit _ _ (omega arith)))

pub returns-then-s-byte-ge8 : goal.returns-then-s-byte-ge8
returns-then-s-byte-ge8 c = bits_of-word _ _ _ (omega arith) (omega arith) (taken_word c.word_at.ensures) _ (omega arith) c.later.ensures
