-- `add_product` meets its contract: one product more is exact at 64 bits. Assumes nothing.
use Rattle.subframe_samples.proofs.Predictions.{coefficient-product-fits, product-sum_fits, product-sum_is}
use Rattle.subframe_samples.proofs.predict.add_product.Goals as goal

pub overflow_mul-result : goal.overflow_mul-result
overflow_mul-result c =
    coefficient-product-fits {x = c.sample_at.result} c.ranges.sum c.ranges.coefficient (record { sfits = c.sample_at.type_inv }) c.requires.1 c.requires.2 c.sample_at.ensures.1

pub overflow_add-result : goal.overflow_add-result
overflow_add-result c =
    product-sum_fits {x = c.sample_at.result} c.ranges.sum c.ranges.coefficient (record { sfits = c.sample_at.type_inv }) c.requires.1 c.requires.2 c.sample_at.ensures.1

pub returns : goal.returns
returns c =
    product-sum_is {x = c.sample_at.result} c.ranges.sum c.ranges.coefficient (record { sfits = c.sample_at.type_inv }) c.requires.1 c.requires.2 c.sample_at.ensures.1
    c.sample_at.ensures.0
