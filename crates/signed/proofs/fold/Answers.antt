-- `fold` meets its contract, by the sign: twice a magnitude of 63 bits fits. Assumes nothing.
use native.Mathlib.Omega.{arith}
use Rattle.signed.proofs.SignCases.{magnitude-below, fold-pos, fold-negsuc}
use Rattle.signed.proofs.fold.Goals as goal

pub overflow_mul-result : goal.overflow_mul-result
overflow_mul-result c = record { fits = omega (arith, magnitude-below c.ranges.r c.magnitude-m.ensures) }

pub returns-then-r-ge0 : goal.returns-then-r-ge0
returns-then-r-ge0 c = fold-pos c.ranges.r c.if-r-ge0.true c.magnitude-m.ensures

pub overflow_mul-result-2 : goal.overflow_mul-result-2
overflow_mul-result-2 c = record { fits = omega (arith, magnitude-below c.ranges.r c.magnitude-m.ensures) }

pub overflow_add-result : goal.overflow_add-result
overflow_add-result c = record { fits = omega (arith, magnitude-below c.ranges.r c.magnitude-m.ensures) }

pub returns : goal.returns
returns c = fold-negsuc c.ranges.r c.if-r-ge0.false c.magnitude-m.ensures
