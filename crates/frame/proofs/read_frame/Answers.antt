-- The whole frame: bad settings, an empty input, no header, or a header and what follows it. Assumes nothing.
use mathlib.Core.Path.{ap, sym, ◌∙◌}
use borrow.Author.Tests.{eqb-true, eqb-false}
use Rattle.error.specs.Answers.{read_at}
use Rattle.frame.proofs.AnswerCases.{settings-refused, nothing_left, header-stops}
use Rattle.frame.proofs.read_frame.Goals as goal

pub returns-then-not-is_possible : goal.returns-then-not-is_possible
returns-then-not-is_possible c = settings-refused _ _ _ (sym c.is_possible.ensures ∙ c.if-not-is_possible.true)

pub returns-then-is_empty : goal.returns-then-is_empty
returns-then-is_empty c = nothing_left _ _ _ (sym c.is_possible.ensures ∙ c.if-not-is_possible.false) (eqb-true _ _ (sym c.is_empty.ensures ∙ c.if-is_empty.true))

pub returns-in_default : goal.returns-in_default
returns-in_default c =
    header-stops _ _ _ (sym c.is_possible.ensures ∙ c.if-not-is_possible.false) (eqb-false _ _ (sym c.is_empty.ensures ∙ c.if-is_empty.false)) c.unwrap_err.result
    (sym c.read_header-read.ensures ∙ ap read_at c.unwrap_err.ensures)
