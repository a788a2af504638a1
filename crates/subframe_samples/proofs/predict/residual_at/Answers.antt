-- `residual_at` meets its contract: the difference is exact at 64 bits. Assumes nothing.
use Rattle.subframe_samples.proofs.Predictions.{residual-fits, residual_is}
use Rattle.subframe_samples.proofs.predict.residual_at.Goals as goal

pub overflow_sub-result : goal.overflow_sub-result
overflow_sub-result c =
    residual-fits {x = c.sample_at.result} {y = c.predicted_at.result} (record { sfits = c.sample_at.type_inv }) (record { sfits = c.predicted_at.type_inv }) c.sample_at.ensures.1 c.predicted_at.ensures.1

pub returns : goal.returns
returns c =
    residual_is {x = c.sample_at.result} {y = c.predicted_at.result} (record { sfits = c.sample_at.type_inv }) (record { sfits = c.predicted_at.type_inv }) c.sample_at.ensures.1 c.predicted_at.ensures.1
    c.sample_at.ensures.0 c.predicted_at.ensures.0
