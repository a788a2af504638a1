-- The cases that document 01 marks (P). Assumes nothing.
use Prim.Native.Nat.{ℕ, ◌^◌, ◌<◌}
use native.Mathlib.Omega.{arith}
use mathlib.Core.Path.{◌≡◌, refl}
use mathlib.Core.List.{[], ◌∷◌, map}
use lib.IntN.{pos}
use Rattle.reading.specs.Places.{got_at, refused_at, run_at, place_of}
use Rattle.rfc9639.specs.Integers.{signed}
use Rattle.rfc9639.specs.Number.{coded_number}
use Rattle.rfc9639.specs.Residual.{unfolded, folded, partition}
use Rattle.rfc9639.specs.Prediction.{predict, fixed_coefficients}
use Rattle.rfc9639.specs.Stereo.{left_of_mid, right_of_mid}
use Rattle.rfc9639.proofs.Evaluation.{hex, minus, computed}

pub record Marked : Type 0 where
  -- the number
  pub one_byte : run_at coded_number (hex 1 0x24) (place_of 0) ≡ got_at 0x24 (place_of 8)
  pub two_bytes : run_at coded_number (hex 2 0xc2a2) (place_of 0) ≡ got_at 0xa2 (place_of 16)
  pub three-bytes : run_at coded_number (hex 3 0xe282ac) (place_of 0) ≡ got_at 0x20ac (place_of 24)
  pub four_bytes : run_at coded_number (hex 4 0xf0908d88) (place_of 0) ≡ got_at 0x10348 (place_of 32)
  pub bad_follower : run_at coded_number (hex 2 0xc200) (place_of 0) ≡ refused_at 5
  pub follower_first : run_at coded_number (hex 1 0x80) (place_of 0) ≡ refused_at 5
  -- sign extension
  pub width_17 : signed 17 124680 ≡ minus 6392
  pub width_4 : signed 4 5 ≡ pos 5
  -- folded residuals
  pub unfolds : map unfolded (1 ∷ 2 ∷ 3 ∷ 4 ∷ []) ≡ minus 1 ∷ pos 1 ∷ minus 2 ∷ pos 2 ∷ []
  -- method 1, parameter 30, quotient 4: only the remainder is left; and such a partition with the remainder 6314
  pub remainder_alone : (r : ℕ) → r < 2 ^ 30 → folded 30 4 r ≡ r
  pub remainder_read : run_at (partition 1 1) (hex 5 0xf0_4000_18aa) (place_of 0) ≡ got_at (pos 3157 ∷ []) (place_of 40)
  -- fixed prediction of order 2
  pub fixed_2 : predict (fixed_coefficients 2) 0 (pos 21877 ∷ pos 27482 ∷ []) (minus 6513 ∷ []) ≡ pos 21877 ∷ pos 27482 ∷ pos 26574 ∷ []
  -- mid 12, side 142
  pub left : left_of_mid (pos 12) (pos 142) ≡ pos 83
  pub right : right_of_mid (pos 12) (pos 142) ≡ minus 59

pub marked : Marked
unfolding computed
marked = record {
  one_byte = refl;
  two_bytes = refl;
  three-bytes = refl;
  four_bytes = refl;
  bad_follower = refl;
  follower_first = refl;
  width_17 = refl;
  width_4 = refl;
  unfolds = refl;
  remainder_alone = λ r h. omega arith;
  remainder_read = refl;
  fixed_2 = refl;
  left = refl;
  right = refl;
}
