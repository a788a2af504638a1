-- `read_sample`: the bits that were read, sign-extended. Assumes nothing.
use native.Mathlib.Omega.{arith}
use Rattle.reading.specs.Readers.{bits}
use Rattle.rfc9639.specs.Integers.{signed_bits}
use Rattle.error.proofs.Refusals.{exits}
use Rattle.input.proofs.Callers.{read_exact}
use Rattle.subframe.proofs.SampleReaders.{sample-got}
use Rattle.subframe.proofs.residual.read_sample.Goals as goal

pub returns-in_err-v : goal.returns-in_err-v
unfolding signed_bits
returns-in_err-v c = exits (bits c.args.width) _ _ _ _ _ c.from_residual.ensures.1 (read_exact c.args.width _ _ (omega arith) c.in_err-v.ensures)

pub returns : goal.returns
returns c =
    sample-got _ _ _ (omega arith) c.in_ok-v.ensures c.sign_extend.ensures (record { sfits = c.sign_extend.type_inv }) c.low32.ensures
    (record { sfits = c.low32.type_inv })
