-- `decode_residual`: the method and the order, the partition size checked, and the partitions. Assumes nothing.
use native.Mathlib.Omega.{arith}
use Rattle.subframe.proofs.SliceParts.{samples_stop}
use Rattle.subframe.proofs.ResidualShapes.{partition_count_positive, method_refused, method_reserved, order_refused, order_below, size_uneven, size-below-warm, partitions_read}
use Rattle.subframe.proofs.residual.decode_residual.Goals as goal

pub returns-in_err-method : goal.returns-in_err-method
returns-in_err-method c = samples_stop _ _ c.from_residual.ensures.1 (method_refused _ _ _ _ _ c.in_err-method.ensures) _

pub returns-then-method-ge2 : goal.returns-then-method-ge2
returns-then-method-ge2 c = method_reserved _ _ _ _ c.in_ok-method.ensures c.if-method-ge2.true

pub returns-in_err-order : goal.returns-in_err-order
returns-in_err-order c =
    samples_stop _ _ c.from_residual-in_err-order.ensures.1 (order_refused _ _ _ _ c.in_ok-method.ensures c.if-method-ge2.false _ c.in_err-order.ensures) _

-- the order has four bits
pub overflow_shl-count : goal.overflow_shl-count
overflow_shl-count c =
    omega (arith, order_below 0 0 _ _ c.in_ok-method.ensures c.if-method-ge2.false c.in_ok-order.ensures)

pub nonzero_rem-n : goal.nonzero_rem-n
nonzero_rem-n c =
    partition_count_positive (order_below 0 0 _ _ c.in_ok-method.ensures c.if-method-ge2.false c.in_ok-order.ensures)

pub returns-then-n-count-ne0 : goal.returns-then-n-count-ne0
returns-then-n-count-ne0 c =
    size_uneven _ _ _ _ c.in_ok-method.ensures c.if-method-ge2.false c.in_ok-order.ensures c.if-n-count-ne0.true

pub nonzero_div-size : goal.nonzero_div-size
nonzero_div-size c =
    partition_count_positive (order_below 0 0 _ _ c.in_ok-method.ensures c.if-method-ge2.false c.in_ok-order.ensures)

pub returns-then-size-warm : goal.returns-then-size-warm
returns-then-size-warm c =
    size-below-warm _ _ _ _ c.in_ok-method.ensures c.if-method-ge2.false c.in_ok-order.ensures
    c.if-n-count-ne0.false c.if-size-warm.true

pub overflow_sub-count : goal.overflow_sub-count
overflow_sub-count c =
    partition_count_positive (order_below 0 0 _ _ c.in_ok-method.ensures c.if-method-ge2.false c.in_ok-order.ensures)

pub returns : goal.returns
returns c =
    partitions_read _ _ _ _ c.in_ok-method.ensures c.if-method-ge2.false c.in_ok-order.ensures
    c.if-n-count-ne0.false c.if-size-warm.false c.decode_partitions.ensures
