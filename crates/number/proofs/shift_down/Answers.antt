-- `shift_down` meets its contract: a shift past the width leaves the sign alone. Assumes nothing.
use Prim.Native.Nat.{ℕ}
use native.Mathlib.Omega.{arith}
use mathlib.Core.Path.{◌≡◌, refl, ap, ◌∙◌}
use mathlib.Core.Bool.{Bool, true, false}
use borrow.Author.Tests.{leb-true, leb-false}
use lib.Dec.{leb}
use lib.IntN.{ℤ}
use mir.Syntax.{w64}
use mir.Val.{SFits}
use Rattle.std.specs.Prelude.{min}
use Rattle.rfc9639.specs.Integers.{shift_down}
use Rattle.rfc9639.proofs.Widths.{of_sfits, shift_down_sign}
use Rattle.rfc9639.proofs.MachineIntegers.{shifted}
use Rattle.number.proofs.shift_down.Goals as goal

at_most_63 : {x : ℤ} → SFits w64 x → (k m : ℕ) → m ≡ min k 63 → shift_down m x ≡ shift_down k x
at_most_63 {x} f k m e = go (leb k 63) refl
  where
    go : (t : Bool) → leb k 63 ≡ t → shift_down m x ≡ shift_down k x
    go true t = let h = leb-true k 63 t in ap (λ n. shift_down n x) (let d : m ≡ k = omega arith in d)
    go false t = let h = leb-false k 63 t in shift_down_sign (of_sfits f) m k (omega arith) (omega arith)

pub returns : goal.returns
returns c = shifted c.ranges.x c.min.result ∙ at_most_63 c.ranges.x c.args.k c.min.result c.min.ensures
