-- The stream's block: the number of a frame's first sample fits 64 bits. Assumes nothing.
use Prim.Native.Nat.{ℕ, ◌^◌, ◌<◌}
use native.Mathlib.Nat.{mul-le-mul, lt_of_le_of_lt}
use native.Mathlib.Omega.{arith}
use mathlib.Core.Path.{◌≡◌}
use mathlib.Core.Bool.{true}
use borrow.Author.Tests.{leb-true}
use lib.Dec.{leb, ltb}
use Rattle.std.specs.Prelude.{Option, Some, None, IfSome}
use Rattle.reading.proofs.ByteRuns.{and_snd}
use Rattle.rfc9639.specs.declared.BlockTime.{BlockTime}
use Rattle.rfc9639.specs.declared.BlockTime.TheVariants.{FrameNumber, SampleNumber}
use Rattle.rfc9639.specs.Stream.{in_range, first_sample}
use Rattle.demands.proofs.Headers.{number_in}

-- a number of 36 bits times a block size of 16 fits 64
pub first_fits : (block : Option ℕ) (time : BlockTime) → in_range block ≡ true → number_in time < 2 ^ 36 → IfSome (first_sample block time) (λ n. n < 2 ^ 64)
unfolding in_range first_sample number_in
first_fits block (SampleNumber n) ok h = omega arith
first_fits None (FrameNumber n) ok h = tt
first_fits (Some size) (FrameNumber n) ok h =
    lt_of_le_of_lt (mul-le-mul {n₂ = 65535} {m₂ = 2 ^ 36} (leb-true size 65535 (and_snd (ltb 0 size) (leb size 65535) ok)) (omega arith)) (omega arith)
