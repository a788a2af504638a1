-- No bits, 8 or 16, by the code as in the definition. Assumes nothing.
use borrow.Author.Tests.{ne_eqb}
use native.Mathlib.Omega.{arith}
use mathlib.Core.Path.{◌≡◌, sym, ◌∙◌}
use Rattle.reading.specs.NumbersAsBits.{bits_of}
use Rattle.rfc9639.specs.HeaderCodes.{size_bits}
use Rattle.header_writer.proofs.size_width.Goals as goal

pub returns-in-6 : goal.returns-in-6
unfolding size_bits
returns-in-6 c = rw (sym c.size_code.ensures ∙ c.in-6.is)

pub returns-in-7 : goal.returns-in-7
unfolding size_bits
returns-in-7 c = rw (sym c.size_code.ensures ∙ c.in-7.is)

pub returns-in_default : goal.returns-in_default
unfolding size_bits bits_of
returns-in_default c =
    let six : c.size_code.result ≡ 6 → ⊥ = λ e. omega arith in
    let seven : c.size_code.result ≡ 7 → ⊥ = λ e. omega arith in
    rw (← c.size_code.ensures, ne_eqb _ _ six, ne_eqb _ _ seven)
