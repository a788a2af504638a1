-- `code_at_top`: without the first one, the shifted word is the remainder. Assumes nothing.
use native.Mathlib.Omega.{arith}
use mathlib.Core.Path.{ap, ◌∙◌}
use mir.Syntax.{w32}
use mir.Facts.{to_z-of_z}
use Rattle.rfc9639.specs.Residual.{folded, unfolded}
use Rattle.subframe.proofs.RiceWords.{one-within, remainder_is, remainder_fits}
use Rattle.subframe.proofs.residual.code_at_top.Goals as goal

pub overflow_sub-x-2 : goal.overflow_sub-x-2
overflow_sub-x-2 c = one-within _ _ _ (omega arith) (omega arith) c.requires.3

pub folded-requires : goal.folded-requires
folded-requires c = (omega arith, omega arith, remainder_fits _ _ _ (omega arith) (omega arith) c.requires.3)

pub returns : goal.returns
returns c =
    to_z-of_z {w = w32} (record { sfits = c.«unfold».type_inv }) ∙ c.«unfold».ensures
    ∙ ap unfolded (c.folded.ensures ∙ ap (folded _ _) (remainder_is _ _ _ (omega arith) (omega arith) c.requires.3))
