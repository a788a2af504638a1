-- `read_rice`: a code that ends in the word from the byte on. Assumes nothing.
use native.Mathlib.Nat.{mod-lt, pos_of_ne-zero}
use native.Mathlib.Omega.{arith}
use mathlib.Core.Path.{refl}
use lib.Pow.{pow_pos}
use Rattle.reading.proofs.Words.{first_one}
use Rattle.subframe.proofs.RiceWords.{rice_in_word}
use Rattle.subframe.proofs.residual.read_rice.Goals as goal

pub code_at_top-requires : goal.code_at_top-requires
code_at_top-requires c = (omega arith, omega arith, omega arith, first_one 64 _ (pos_of_ne-zero c.if-w-eq0.false) (mod-lt _ (pow_pos 64)))

pub returns : goal.returns
returns c = (
  rice_in_word _ _ _ _ c.word_from.ensures refl c.if-w-eq0.false refl refl (omega arith) _ c.code_at_top.ensures
      (record { sfits = c.code_at_top.type_inv }) (omega arith),
  omega arith,
)
