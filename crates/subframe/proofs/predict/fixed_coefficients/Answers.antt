-- `fixed_coefficients`: row by row. Assumes nothing.
use native.Mathlib.Omega.{arith}
use mathlib.Core.Path.{◌≡◌}
use Rattle.rfc9639.specs.Prediction.{fixed_coefficients}
use Rattle.subframe.proofs.predict.fixed_coefficients.Goals as goal

pub returns-in-0 : goal.returns-in-0
unfolding fixed_coefficients
returns-in-0 c = rw c.in-0.is

pub returns-in-1 : goal.returns-in-1
unfolding fixed_coefficients
returns-in-1 c = rw c.in-1.is

pub returns-in-2 : goal.returns-in-2
unfolding fixed_coefficients
returns-in-2 c = rw c.in-2.is

pub returns-in-3 : goal.returns-in-3
unfolding fixed_coefficients
returns-in-3 c = rw c.in-3.is

pub returns-in_default : goal.returns-in_default
unfolding fixed_coefficients
returns-in_default c = let e : c.args.order ≡ 4 = omega arith in rw e
