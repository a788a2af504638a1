-- `word_at`: each byte moves the bits before it up by eight. Assumes nothing.
use native.Mathlib.Omega.{arith}
use Rattle.reading.proofs.Words.{eight-bytes}
use Rattle.input.proofs.word_at.Goals as goal

pub returns : goal.returns
returns c =
    let start = c in
    eight-bytes start.args.s.now start.args.byte (omega arith) (λ k h. omega (arith, c.shared_slice_known-9-1.given k)) (omega arith)
