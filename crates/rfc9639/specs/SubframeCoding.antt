-- A channel as the writer stores it (RFC 9639 sections 9.2.1 to 9.2.7): the candidates, the bits of each, and which of
-- them is taken.
use Rattle.std.specs.Prelude.{ℕ, zero, suc, ◌+◌, ◌*◌, ◌/◌, ◌^◌, min, Bool, true, false, ◌&&◌, List, [], ◌∷◌, ◌++◌, map, reverse, ltb, eqb, ℤ, pos, negsuc, ◌-ℤ◌, length, take, drop, if◌then◌else◌}
use Rattle.reading.specs.NumbersAsBits.{bits_of, unary, row}
use Rattle.rfc9639.specs.declared.Candidate.{Candidate}
use Rattle.rfc9639.specs.declared.Candidate.TheVariants.{Constant, Verbatim, Fixed}
use Rattle.rfc9639.specs.Integers.{low, shift_down}
use Rattle.rfc9639.specs.Prediction.{dot, fixed_coefficients}

-- ---- the residual

-- Section 9.2.7.2: a residual's folded (zigzag) form. n folds to 2 n, and -1 - n to 2 n + 1.
unfoldable pub fold : ℤ → ℕ
fold (pos n) = n * 2
fold (negsuc n) = n * 2 + 1

-- the quotient by 2 ^ k in unary, then the remainder in k bits
unfoldable pub rice_bits : ℕ → ℤ → List ℕ
rice_bits k r = unary (fold r / 2 ^ k) ++ bits_of k (fold r)

-- Section 9.2.7: method 0, partition order 0, the Rice parameter of the one partition, and the residuals.
unfoldable pub residual_bits : ℕ → List ℤ → List ℕ
residual_bits k rs = bits_of 2 0 ++ bits_of 4 0 ++ bits_of 4 k ++ row (rice_bits k) rs

-- each sample minus its prediction, exact in ℤ
unfoldable pub residuals : List ℤ → ℕ → List ℤ → List ℤ → List ℤ
residuals coefficients shift before [] = []
residuals coefficients shift before (x ∷ xs) =
    (x -ℤ shift_down shift (dot (pos 0) coefficients before)) ∷ residuals coefficients shift (x ∷ before) xs

-- the residuals of a fixed predictor, for the samples after its warm-up
unfoldable pub fixed_residuals : ℕ → List ℤ → List ℤ
fixed_residuals order xs = residuals (fixed_coefficients order) 0 (reverse (take order xs)) (drop order xs)

-- ---- the subframe

-- unencoded samples, w bits each
unfoldable pub plain : ℕ → List ℤ → List ℕ
plain w = row (λ x. bits_of w (low w x))

-- Section 9.2.1: a zero bit, the type, and no wasted bits.
unfoldable pub subframe_header_bits : ℕ → List ℕ
subframe_header_bits code = bits_of 1 0 ++ bits_of 6 code ++ bits_of 1 0

-- the subframe of a channel with w bits a sample, as each candidate stores it
unfoldable pub coded_as : Candidate → ℕ → List ℤ → List ℕ
coded_as Constant w xs = subframe_header_bits 0 ++ plain w (take 1 xs)
coded_as Verbatim w xs = subframe_header_bits 1 ++ plain w xs
coded_as (Fixed order k) w xs = subframe_header_bits (8 + order) ++ plain w (take order xs) ++ residual_bits k (fixed_residuals order xs)

-- ---- the choice

unfoldable pub equal_samples : ℤ → ℤ → Bool
equal_samples (pos a) (pos b) = eqb a b
equal_samples (pos a) (negsuc b) = false
equal_samples (negsuc a) (pos b) = false
equal_samples (negsuc a) (negsuc b) = eqb a b

-- whether all samples are equal
unfoldable pub uniform : List ℤ → Bool
uniform [] = true
uniform (x ∷ xs) = go xs
  where
    go : List ℤ → Bool
    go [] = true
    go (y ∷ ys) = equal_samples x y && go ys

-- the n numbers from `a` up
unfoldable pub numbers_from : ℕ → ℕ → List ℕ
numbers_from a zero = []
numbers_from a (suc n) = a ∷ numbers_from (suc a) n

-- the fixed predictors of these orders, each with the Rice parameters 0 to 14
unfoldable pub fixed_candidates : List ℕ → List Candidate
fixed_candidates [] = []
fixed_candidates (order ∷ orders) = map (Fixed order) (numbers_from 0 15) ++ fixed_candidates orders

-- The candidates of a channel: constant where all samples are equal, verbatim, and the fixed predictors of order 0 to 4
-- with an order below the block size.
unfoldable pub candidates : List ℤ → List Candidate
candidates xs = (if uniform xs then Constant ∷ [] else []) ++ Verbatim ∷ fixed_candidates (numbers_from 0 (min 5 (length xs)))

-- The first element with the smallest count: a later one is taken only if its count is smaller.
unfoldable pub fewest_of : {A : Type 0} → (A → ℕ) → A → List A → A
fewest_of count best [] = best
fewest_of count best (c ∷ cs) = fewest_of count (if ltb (count c) (count best) then c else best) cs

unfoldable pub fewest : (Candidate → ℕ) → List Candidate → Candidate
fewest count [] = Verbatim
fewest count (c ∷ cs) = fewest_of count c cs

-- how many bits a candidate has
unfoldable pub cost : ℕ → List ℤ → Candidate → ℕ
cost w xs c = length (coded_as c w xs)

unfoldable pub chosen : ℕ → List ℤ → Candidate
chosen w xs = fewest (cost w xs) (candidates xs)

-- the subframe that the writer writes
unfoldable pub subframe_bits : ℕ → List ℤ → List ℕ
subframe_bits w xs = coded_as (chosen w xs) w xs
