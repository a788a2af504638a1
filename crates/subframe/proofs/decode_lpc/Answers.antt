-- `decode_lpc`: the warm-up samples, the precision and the shift, then the rest. Assumes nothing.
use Prim.Native.Nat.{ℕ}
use native.Mathlib.Omega.{arith}
use mathlib.Core.Path.{ap₂, sym, ◌∙◌}
use mathlib.Core.List.{List}
use lib.IntN.{ℤ}
use lib.ListN.{length, drop}
use Rattle.reading.specs.Readers.{Ask, ◌>>=◌, many}
use Rattle.reading.specs.Places.{run_at}
use Rattle.reading.proofs.ByteRuns.{bind_got_lem}
use Rattle.rfc9639.specs.Integers.{signed_bits}
use Rattle.rfc9639.specs.Subframe.{lpc, quantization, lpc_after_shift}
use Rattle.subframe.specs.Private.{Quantization}
use Rattle.subframe.proofs.SliceParts.{passed_on, front-stops, front_then, first_taken, front_replaced-length}
use Rattle.subframe.proofs.HeaderBounds.{quantization-sound}
use Rattle.subframe.proofs.decode_lpc.Goals as goal

-- what follows the warm-up samples
abbrev quantized_then : ℕ → ℕ → List ℤ → Quantization → Ask (List ℤ)
quantized_then order n w q = lpc_after_shift order q.0 q.1 w n

abbrev rest : ℕ → ℕ → List ℤ → Ask (List ℤ)
rest order n w = quantization >>= quantized_then order n w

pub returns-in_err-p : goal.returns-in_err-p
unfolding lpc
returns-in_err-p c =
    let a = c.args in
    front-stops (λ k. many k (signed_bits a.width)) a.s.now a.at a.order a.out.now c.requires.2 (rest a.order (length a.out.now)) _ _
    c.from_residual.ensures.1 c.in_err-p.ensures _

pub returns-in_err-precision : goal.returns-in_err-precision
unfolding lpc
returns-in_err-precision c =
    let a = c.args in let d = c.decode_verbatim in
    passed_on quantization a.s.now c.in_ok-p.p (quantized_then a.order (length a.out.now) d.new.out) _ _ c.from_residual-in_err-precision.ensures.1 c.in_err-precision.ensures _
    ∙ front_then (λ k. many k (signed_bits a.width)) a.s.now a.at a.order a.out.now c.requires.2 c.in_ok-p.ensures (rest a.order (length a.out.now))

pub decode_lpc_after_shift-requires : goal.decode_lpc_after_shift-requires
decode_lpc_after_shift-requires c =
    let a = c.args in let d = c.decode_verbatim in
    let sound = quantization-sound a.s.now c.in_ok-p.p (sym c.in_ok-precision.ensures) in
    (sound.few, sound.near, c.requires.1, omega (arith, front_replaced-length a.order a.out.now c.requires.2 d.new.out d.auto.out, c.requires.2))

pub returns : goal.returns
unfolding lpc
returns c =
    let a = c.args in let d = c.decode_verbatim in let k = c.in_ok-precision in
    c.decode_lpc_after_shift.ensures
    ∙ ap₂ (λ (w : List ℤ) n. run_at (lpc_after_shift a.order k.precision k.shift w n) a.s.now k.q)
    (first_taken a.order a.out.now c.requires.2 d.new.out d.auto.out (drop a.order a.out.now))
    (front_replaced-length a.order a.out.now c.requires.2 d.new.out d.auto.out)
    ∙ sym (bind_got_lem quantization a.s.now c.in_ok-p.p (quantized_then a.order (length a.out.now) d.new.out) (sym k.ensures))
    ∙ front_then (λ k. many k (signed_bits a.width)) a.s.now a.at a.order a.out.now c.requires.2 c.in_ok-p.ensures (rest a.order (length a.out.now))
