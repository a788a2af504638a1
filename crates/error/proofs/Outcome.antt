-- Outcomes that meet a contract are equal; no two refusals have the same number, and none has 0. Assumes nothing.
use Prim.Native.Nat.{ℕ, zero, suc, ◌-◌, ◌≤◌}
use native.Mathlib.Omega.{arith}
use mathlib.Core.Path.{◌≡◌, refl, ap, sym, ◌∙◌}
use mathlib.Core.List.{List, [], ◌∷◌}
use lib.ListN.{get_or}
use Rattle.reading.proofs.Outcome.{OneOutcome, one_value}
use Rattle.error.specs.declared.Refusal.{Refusal}
use Rattle.error.specs.declared.Refusal.TheVariants.{NothingLeft, CutShort, NotSync, Reserved, BadNumber, HeaderSum, NoRoom, NotDone, BadShape, FrameSum, BadArgument, SampleRange, OutputRoom}
use Rattle.error.specs.Numbers.{number_of}
use Rattle.error.specs.contracts.U8FromRefusal.from as from
use Rattle.error.proofs.U8FromRefusal.from.Reads as from_reads
use Rattle.error.specs.contracts.Refusal.needs as needs
use Rattle.error.proofs.Refusal.needs.Reads as needs_reads

pub number_of-one : OneOutcome from.ended from_reads.Learnt
number_of-one κs args r r' left left' p q = (one_value p q, refl)

pub needs-one : OneOutcome needs.ended needs_reads.Learnt
needs-one κs args r r' left left' p q = (one_value p q, refl)

every : List Refusal
every = NothingLeft ∷ CutShort ∷ NotSync ∷ Reserved ∷ BadNumber ∷ HeaderSum ∷ NoRoom ∷ NotDone ∷ BadShape ∷ FrameSum ∷ BadArgument ∷ SampleRange ∷ OutputRoom ∷ []

-- the refusal that a number names
named : ℕ → Refusal
named n = get_or every (n - 1) NothingLeft

names : (r : Refusal) → named (number_of r) ≡ r
unfolding named every
names NothingLeft = refl
names CutShort = refl
names NotSync = refl
names Reserved = refl
names BadNumber = refl
names HeaderSum = refl
names NoRoom = refl
names NotDone = refl
names BadShape = refl
names FrameSum = refl
names BadArgument = refl
names SampleRange = refl
names OutputRoom = refl

pub number-tells : (r r' : Refusal) → number_of r ≡ number_of r' → r ≡ r'
number-tells r r' e = sym (names r) ∙ ap named e ∙ names r'

-- 0 is the number of an accepted frame, and of no refusal
pub some_number : (e : Refusal) → 1 ≤ number_of e
unfolding named every
some_number e = go (number_of e) refl
  where
    go : (n : ℕ) → number_of e ≡ n → 1 ≤ n
    go zero f = let d : NothingLeft ≡ e = ap named (sym f) ∙ names e in omega (arith, ap number_of d)
    go (suc n) f = omega arith
