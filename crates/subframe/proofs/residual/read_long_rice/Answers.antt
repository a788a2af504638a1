-- `read_long_rice`: the quotient, the remainder, and the residual of both. Assumes nothing.
use native.Mathlib.Omega.{arith}
use Rattle.subframe.proofs.SliceParts.{read_stops}
use Rattle.subframe.proofs.SampleReaders.{quotient_refused, remainder_refused, quotient_below, remainder_below, rice-got}
use Rattle.subframe.proofs.residual.read_long_rice.Goals as goal

pub returns-in_err-q : goal.returns-in_err-q
returns-in_err-q c = read_stops _ _ c.from_residual.ensures.1 (quotient_refused _ _ _ (omega arith) _ c.in_err-q.ensures)

pub returns-in_err-r : goal.returns-in_err-r
returns-in_err-r c = read_stops _ _ c.from_residual-in_err-r.ensures.1 (remainder_refused _ _ _ (omega arith) c.in_ok-q.ensures _ c.in_err-r.ensures)

pub folded-requires : goal.folded-requires
folded-requires c =
    let a = c.args in (
      quotient_below a.k a.s.now a.at c.requires c.in_ok-q.ensures,
      omega arith,
      remainder_below a.k a.s.now a.at c.requires c.in_ok-q.ensures c.in_ok-r.ensures,
    )

pub returns : goal.returns
returns c =
    rice-got _ _ _ (omega arith) c.in_ok-q.ensures c.in_ok-r.ensures c.folded.ensures c.«unfold».ensures (record { sfits = c.«unfold».type_inv })
