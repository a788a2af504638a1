-- `decode_fixed`: the warm-up samples, then prediction by known coefficients. Assumes nothing.
use Prim.Native.Nat.{ℕ}
use native.Mathlib.Omega.{arith}
use mathlib.Core.Path.{◌∙◌}
use mathlib.Core.List.{List, ◌++◌}
use lib.IntN.{ℤ}
use lib.ListN.{length, drop}
use Rattle.reading.specs.Readers.{Ask, ◌>>=◌, done, many}
use Rattle.rfc9639.specs.Integers.{signed_bits}
use Rattle.rfc9639.specs.Residual.{residual}
use Rattle.rfc9639.specs.Prediction.{predict, fixed_coefficients}
use Rattle.rfc9639.specs.Subframe.{fixed}
use Rattle.subframe.proofs.SliceParts.{front-stops, front_then, first_taken, front_replaced-length}
use Rattle.subframe.proofs.PredictionSums.{fixed-row}
use Rattle.subframe.proofs.DecodedSubframes.{predictable, predicted_block_lem}
use Rattle.subframe.proofs.decode_fixed.Goals as goal

-- what follows the warm-up samples
abbrev rest : ℕ → ℕ → List ℤ → Ask (List ℤ)
rest order n w = residual order n >>= (λ r. done (predict (fixed_coefficients order) 0 w r))

pub returns-in_err-p : goal.returns-in_err-p
unfolding fixed
returns-in_err-p c =
    let a = c.args in
    front-stops (λ k. many k (signed_bits a.width)) a.s.now a.at a.order a.out.now c.requires.2 (rest a.order (length a.out.now)) _ _
    c.from_residual.ensures.1 c.in_err-p.ensures _

pub decode_predicted-requires : goal.decode_predicted-requires
decode_predicted-requires c =
    let a = c.args in let d = c.decode_verbatim in
    predictable (d.new.out ++ drop a.order a.out.now) c.fixed_coefficients-coefficients.ensures (fixed-row a.order c.requires.1) (omega (arith, c.requires.1))
    (omega (arith, front_replaced-length a.order a.out.now c.requires.2 d.new.out d.auto.out, c.requires.2))

pub returns : goal.returns
unfolding fixed
returns c =
    let a = c.args in let d = c.decode_verbatim in
    c.decode_predicted.ensures
    ∙ predicted_block_lem (d.new.out ++ drop a.order a.out.now) c.fixed_coefficients-coefficients.ensures (fixed-row a.order c.requires.1) 0
    (length a.out.now) d.new.out (first_taken a.order a.out.now c.requires.2 d.new.out d.auto.out (drop a.order a.out.now))
    (front_replaced-length a.order a.out.now c.requires.2 d.new.out d.auto.out) a.s.now c.in_ok-p.p
    ∙ front_then (λ k. many k (signed_bits a.width)) a.s.now a.at a.order a.out.now c.requires.2 c.in_ok-p.ensures (rest a.order (length a.out.now))
