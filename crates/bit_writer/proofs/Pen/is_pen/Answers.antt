-- Whether it is a pen, by the two tests of the definition. Assumes nothing.
use Prim.Native.Nat.{ℕ, zero, suc, ◌/◌, ◌^◌}
use native.Mathlib.Nat.{div-lt_iff_lt-mul, le-div_iff_mul-le, one-mul}
use native.Mathlib.Omega.{arith}
use mathlib.Core.Path.{◌≡◌, refl, sym, ◌∙◌}
use borrow.Author.Tests.{lt-ltb, le-ltb, ne_eqb}
use lib.Dec.{eqb, ltb}
use lib.Pow.{pow_pos}
use Rattle.bit_writer.specs.PenWrites.{is_pen}
use Rattle.bit_writer.proofs.Pen.is_pen.Goals as goal

-- no bits are set above those held
none_above : (b k : ℕ) (q : ℕ) → b / 2 ^ k ≡ q → eqb q 0 ≡ ltb b (2 ^ k)
none_above b k zero e = sym (lt-ltb _ _ (rw one-mul at ((div-lt_iff_lt-mul {x = b} {y = 1} (pow_pos k)).0 (omega arith))))
none_above b k (suc q) e = ne_eqb (suc q) 0 (λ f. omega arith) ∙ sym (le-ltb _ _ (rw one-mul at ((le-div_iff_mul-le {x = 1} {y = b} (pow_pos k)).0 (omega arith))))

pub returns-then-self-lt8 : goal.returns-then-self-lt8
unfolding is_pen
returns-then-self-lt8 c = rw (lt-ltb _ _ c.if-self-lt8.true) (none_above _ _ _ refl)

pub returns-else-self-lt8 : goal.returns-else-self-lt8
unfolding is_pen
returns-else-self-lt8 c = rw (le-ltb _ _ c.if-self-lt8.false)
