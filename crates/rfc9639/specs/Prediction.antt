-- Prediction (RFC 9639 sections 9.2.5 and 9.2.6): exact in ℤ; of the sample the low 32 bits are kept.
use Rattle.std.specs.Prelude.{ℕ, List, [], ◌∷◌, ◌++◌, reverse, eqb, ℤ, pos, negsuc, ◌+ℤ◌, ◌*ℤ◌, if◌then◌else◌}
use Rattle.rfc9639.specs.Integers.{wrapped, shift_down}

-- the dot product of two lists, added to acc
unfoldable pub dot : ℤ → List ℤ → List ℤ → ℤ
dot acc [] xs = acc
dot acc (c ∷ cs) [] = acc
dot acc (c ∷ cs) (x ∷ xs) = dot (acc +ℤ c *ℤ x) cs xs

-- One sample, from its residual and the samples before it. They start with the latest sample, as the coefficients do.
unfoldable pub predicted : List ℤ → ℕ → List ℤ → ℤ → ℤ
predicted coefficients shift before residual = wrapped 32 (shift_down shift (dot (pos 0) coefficients before) +ℤ residual)

-- each sample in turn, from its residual and the samples before it
unfoldable pub restored : List ℤ → ℕ → List ℤ → List ℤ → List ℤ
restored coefficients shift before [] = []
restored coefficients shift before (r ∷ rs) =
    predicted coefficients shift before r ∷ restored coefficients shift (predicted coefficients shift before r ∷ before) rs

-- the block: its warm-up samples, then those restored from the residual
unfoldable pub predict : List ℤ → ℕ → List ℤ → List ℤ → List ℤ
predict coefficients shift warm residual = warm ++ restored coefficients shift (reverse warm) residual

-- Section 9.2.5: the fixed predictors are linear predictors with these coefficients and no shift.
unfoldable pub fixed_coefficients : ℕ → List ℤ
fixed_coefficients order =
    if eqb order 0 then []
    else if eqb order 1 then pos 1 ∷ []
    else if eqb order 2 then pos 2 ∷ negsuc 0 ∷ []
    else if eqb order 3 then pos 3 ∷ negsuc 2 ∷ pos 1 ∷ []
    else pos 4 ∷ negsuc 5 ∷ pos 4 ∷ negsuc 0 ∷ []
