-- The pieces of the choice: the sums of the quotients for each parameter, and the choices made from them. Only
-- contracts of private functions name it, so nobody has to believe it.
use Rattle.std.specs.Prelude.{ℕ, suc, ◌+◌, ◌*◌, ◌/◌, ◌^◌, ◌<◌, List, [], ◌∷◌, map, ℤ, get_or, if◌then◌else◌}
use Rattle.rfc9639.specs.declared.Candidate.{Candidate}
use Rattle.rfc9639.specs.declared.Candidate.TheVariants.{Constant, Verbatim, Fixed}
use Rattle.rfc9639.specs.SubframeCoding.{fold, uniform, numbers_from, fewest_of, cost}
use Rattle.subframe_choice.specs.declared.Choice.{Choice}

-- a candidate with its bits
unfoldable pub priced : ℕ → List ℤ → Candidate → Choice
priced w xs c = record { candidate = c; bits = cost w xs c }

-- a fixed predictor with each of its parameters, and their bits
abbrev pub priced_fixed : ℕ → List ℤ → ℕ → List Choice
priced_fixed w xs order = map (priced w xs) (map (Fixed order) (numbers_from 0 15))

-- a choice's bits
abbrev pub weight : Choice → ℕ
weight c = c.bits

-- the best of the candidates without prediction
unfoldable pub best_plain : ℕ → List ℤ → Choice
best_plain w xs =
    if uniform xs
    then fewest_of weight (priced w xs Constant) (priced w xs Verbatim ∷ [])
    else priced w xs Verbatim

-- the sum of the residuals' quotients for the parameter k
unfoldable pub sum_by : ℕ → List ℤ → ℕ
sum_by k [] = 0
sum_by k (r ∷ rs) = fold r / 2 ^ k + sum_by k rs

-- one for each of the parameters 0 to 14
unfoldable pub sums_of : List ℤ → List ℕ
sums_of rs = map (λ k. sum_by k rs) (numbers_from 0 15)

-- the quotients of a folded residual added to such sums, the first of which is for the parameter k
unfoldable pub add_quotients : ℕ → ℕ → List ℕ → List ℕ
add_quotients f k [] = []
add_quotients f k (q ∷ qs) = (q + f / 2 ^ k) ∷ add_quotients f (suc k) qs

-- each is below b
abbrev pub Under : ℕ → List ℕ → Type 0
Under b qs = (k : ℕ) → get_or qs k 0 < b

-- a fixed predictor with the parameters from k on, given the sums of its quotients
unfoldable pub offers : ℕ → ℕ → ℕ → ℕ → List ℕ → List Choice
offers order head count k [] = []
offers order head count k (q ∷ qs) =
    record { candidate = Fixed order k; bits = head + q + count * (k + 1) } ∷ offers order head count (suc k) qs
