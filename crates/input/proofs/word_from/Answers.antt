-- `word_from`: the word that eight bytes spell, where they are left. Assumes nothing.
use native.Mathlib.Omega.{arith}
use Rattle.input.proofs.Callers.{word-short, word-whole}
use Rattle.input.proofs.word_from.Goals as goal

pub returns-then-saturating_sub-byte : goal.returns-then-saturating_sub-byte
returns-then-saturating_sub-byte c = word-short _ _ (omega arith)

pub returns : goal.returns
returns c = word-whole _ _ (omega arith) (omega arith) c.word_at.ensures
