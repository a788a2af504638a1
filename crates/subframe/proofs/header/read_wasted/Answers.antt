-- `read_wasted`: the wasted bits, checked as the definition does. Assumes nothing.
use borrow.Author.Rules.{rules}
use mathlib.Core.Path.{sym}
use Rattle.input.proofs.Callers.{read_exact, unary-got, unary-refused}
use Rattle.subframe.proofs.SliceParts.{read_stops}
use Rattle.subframe.proofs.HeaderFields.{flag_refused, no_width_left, no_wasted_bits, unary-run-refused, unary-run-too_long, unary-run-too_wide, unary-run-kept}
use Rattle.subframe.proofs.header.read_wasted.Goals as goal

pub returns-in_err-set : goal.returns-in_err-set
returns-in_err-set c = read_stops _ _ c.from_residual.ensures.1 (flag_refused _ _ _ _ (read_exact 1 _ _ (search rules) c.in_err-set.ensures))

pub returns-then-width-eq0 : goal.returns-then-width-eq0
returns-then-width-eq0 c =
    sym (no_width_left _ _ _ (sym (read_exact 1 _ _ (search rules) c.in_ok-set.ensures)) c.if-set-eq0.true c.if-width-eq0.true)

pub returns-then-set-eq0 : goal.returns-then-set-eq0
returns-then-set-eq0 c =
    sym (no_wasted_bits _ _ _ (sym (read_exact 1 _ _ (search rules) c.in_ok-set.ensures)) c.if-set-eq0.true c.if-width-eq0.false)

pub returns-in_err-zeros : goal.returns-in_err-zeros
returns-in_err-zeros c =
    read_stops _ _ c.from_residual-in_err-zeros.ensures.1
    (unary-run-refused _ _ _ (sym (read_exact 1 _ _ (search rules) c.in_ok-set.ensures)) c.if-set-eq0.false _ (unary-refused _ _ _ c.in_err-zeros.ensures))

-- the zeros after the flag, and their count
pub returns-then-zeros-gt30 : goal.returns-then-zeros-gt30
returns-then-zeros-gt30 c =
    let run = unary-got _ _ c.in_ok-zeros.ensures in
    sym
    (unary-run-too_long _ _ _ (sym (read_exact 1 _ _ (search rules) c.in_ok-set.ensures)) c.if-set-eq0.false run.1 run.2
    c.if-zeros-gt30.true)

pub returns-then-width-wasted : goal.returns-then-width-wasted
returns-then-width-wasted c =
    let run = unary-got _ _ c.in_ok-zeros.ensures in
    sym
    (unary-run-too_wide _ _ _ (sym (read_exact 1 _ _ (search rules) c.in_ok-set.ensures)) c.if-set-eq0.false run.1 run.2
    c.if-zeros-gt30.false c.if-width-wasted.true)

pub returns : goal.returns
returns c =
    let run = unary-got _ _ c.in_ok-zeros.ensures in
    sym
    (unary-run-kept _ _ _ (sym (read_exact 1 _ _ (search rules) c.in_ok-set.ensures)) c.if-set-eq0.false run.1 run.2
    c.if-zeros-gt30.false c.if-width-wasted.false)
