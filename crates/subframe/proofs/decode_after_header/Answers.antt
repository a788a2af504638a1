-- `decode_after_header`: the order checked, the samples by their kind, the wasted bits put back. Assumes nothing.
use native.Mathlib.Omega.{arith}
use mathlib.Core.Path.{sym, ◌∙◌}
use lib.ListN.{length}
use Rattle.reading.proofs.ByteRuns.{inside_in, run_at-out}
use Rattle.subframe.proofs.DecodedSubframes.{order_too_high, after-header_refused, after-header-done}
use Rattle.subframe.proofs.decode_after_header.Goals as goal

pub returns-then-not-is_inside : goal.returns-then-not-is_inside
returns-then-not-is_inside c = sym (run_at-out _ _ _ (sym c.is_inside.ensures ∙ c.if-not-is_inside.true))

pub returns-then-out-order_of : goal.returns-then-out-order_of
returns-then-out-order_of c =
    let a = c.args in let here = inside_in a.s.now a.at (sym c.is_inside.ensures ∙ c.if-not-is_inside.false) in
    order_too_high (length a.out.now) a.width a.h a.s.now a.at here (omega (arith, c.order_of.ensures, c.if-out-order_of.true))

pub returns-in_err-p : goal.returns-in_err-p
returns-in_err-p c =
    let a = c.args in let here = inside_in a.s.now a.at (sym c.is_inside.ensures ∙ c.if-not-is_inside.false) in
    after-header_refused (length a.out.now) a.width a.h a.s.now a.at here (omega (arith, c.order_of.ensures, c.if-out-order_of.false)) _ _
    c.from_residual.ensures.1 c.in_err-p.ensures _

pub returns : goal.returns
returns c =
    let a = c.args in let here = inside_in a.s.now a.at (sym c.is_inside.ensures ∙ c.if-not-is_inside.false) in
    after-header-done (length a.out.now) a.width a.h a.s.now a.at here (omega (arith, c.order_of.ensures, c.if-out-order_of.false)) c.in_ok-p.ensures
    c.shift_all.ensures
