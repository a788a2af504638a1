-- Written frames: what the writer's definition gives for some inputs, each worked out by other means. Assumes nothing.
use Prim.Native.Nat.{ℕ}
use mathlib.Core.Path.{◌≡◌, refl}
use mathlib.Core.List.{[], ◌∷◌, ◌++◌}
use lib.IntN.{pos}
use lib.ListN.{replicate}
use Rattle.rfc9639.specs.declared.FrameSetting.{FrameSetting}
use Rattle.rfc9639.specs.Write.{write}
use Rattle.rfc9639.proofs.Evaluation.{hex, minus, computed_write}

abbrev setting : ℕ → ℕ → ℕ → ℕ → ℕ → FrameSetting
setting channels bits blocking number size = record { channels = channels; bits = bits; blocking = blocking; number = number; size = size }

pub record WrittenCases : Type 0 where
  -- one sample 0 of 16 bits: a fixed predictor of order 0 in 19 bits, not constant in 24
  pub one-zero : write (setting 0 16 0 0 1) (pos 0 ∷ []) (replicate 13 7)
      ≡ record { number = 0; length = 12; output = hex 12 0xfff860080000bb10002049a2 ++ 7 ∷ [] }
  -- mid/side, variable blocking, a two-byte number; mid takes order 1, and no later candidate is shorter
  pub mid-side_tie : write (setting 10 8 1 300 4) (pos 1 ∷ pos 2 ∷ pos 3 ∷ pos 5 ∷ pos 4 ∷ pos 4 ∷ pos 4 ∷ pos 4 ∷ []) (replicate 19 7)
      ≡ record { number = 0; length = 18; output = hex 18 0xfff960a2c4ac03a91202000c880026f4bd0e ++ 7 ∷ [] }
  -- three channels: one constant, two verbatim
  pub three-channels : write (setting 2 8 0 70000 3) (pos 5 ∷ pos 5 ∷ pos 5 ∷ pos 100 ∷ minus 100 ∷ pos 30 ∷ minus 128 ∷ pos 127 ∷ minus 128 ∷ []) (replicate 23 7)
      ≡ record { number = 0; length = 22; output = hex 22 0xfff86022f09185b002e3000502649c1e02807f80c189 ++ 7 ∷ [] }
  -- side/right, the largest sample number
  pub side_right : write (setting 9 8 1 68719476735 12) (minus 125 ∷ minus 118 ∷ minus 97 ∷ minus 62 ∷ minus 13 ∷ pos 50 ∷ minus 124 ∷ minus 33 ∷ pos 72 ∷ minus 60 ∷ pos 73 ∷ minus 31 ∷ minus 20 ∷ minus 17 ∷ minus 14 ∷ minus 11 ∷ minus 8 ∷ minus 5 ∷ minus 2 ∷ pos 1 ∷ pos 4 ∷ pos 7 ∷ pos 10 ∷ pos 13 ∷ []) (replicate 36 7)
      ≡ record { number = 0; length = 35; output = hex 35 0xfff96092febfbfbfbfbfbf0b5b02cbe6f5bcdfd8df0dde226f47fd414ecef003ff3d03 ++ 7 ∷ [] }

pub written_cases : WrittenCases
unfolding computed_write
written_cases = record {
  one-zero = refl;
  mid-side_tie = refl;
  three-channels = refl;
  side_right = refl;
}
