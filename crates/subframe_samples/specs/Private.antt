-- What a fixed predictor makes of the samples before one: only contracts of private functions name it, so nobody has to
-- believe it.
use Rattle.std.specs.Prelude.{ℕ, List, reverse, ℤ, pos, ◌-ℤ◌, get_or, take}
use Rattle.rfc9639.specs.Prediction.{dot, fixed_coefficients}

-- the prediction of sample i of xs
unfoldable pub predicted_at : ℕ → List ℤ → ℕ → ℤ
predicted_at order xs i = dot (pos 0) (fixed_coefficients order) (reverse (take i xs))

-- that sample less its prediction
abbrev pub residual_at : ℕ → List ℤ → ℕ → ℤ
residual_at order xs i = get_or xs i (pos 0) -ℤ predicted_at order xs i
