-- `decode_partition`: the parameter, then the residuals coded with it or stored as they are. Assumes nothing.
use native.Mathlib.Omega.{arith}
use Rattle.subframe.proofs.Partitions.{parameter_refused, field_below, partition-escaped, partition-coded}
use Rattle.subframe.proofs.residual.decode_partition.Goals as goal

pub returns-in_err-k : goal.returns-in_err-k
returns-in_err-k c = parameter_refused _ _ _ _ (omega arith) _ _ c.from_residual.ensures.1 c.in_err-k.ensures _

pub returns-then-k-method : goal.returns-then-k-method
returns-then-k-method c = partition-escaped _ _ _ _ (omega arith) c.in_ok-k.ensures c.if-k-method.true c.decode_escaped.ensures

pub overflow_cast-k : goal.overflow_cast-k
overflow_cast-k c = record { fits = omega (arith, field_below _ _ _ (omega arith) c.in_ok-k.ensures) }

pub decode_rice-requires : goal.decode_rice-requires
decode_rice-requires c = omega (arith, field_below _ _ _ (omega arith) c.in_ok-k.ensures)

pub returns : goal.returns
returns c = partition-coded _ _ _ _ (omega arith) c.in_ok-k.ensures c.if-k-method.false c.decode_rice.ensures
