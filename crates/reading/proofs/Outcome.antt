-- One outcome: a function's contract leaves one answer and one content of each lent buffer. Assumes nothing.
use mathlib.Core.Path.{◌≡◌, refl, sym, ◌∙◌}
use contract.Lifetimes.{Lfts}
use denote.Triple.Entry.{Args, Res}
use denote.Triple.Clauses.{Ended, Lasts, AtExit, at_exit}
use Rattle.reading.specs.contracts.is_inside as is_inside
use Rattle.reading.proofs.is_inside.Reads as is_inside_reads

-- Rattle derives two things from a function's source: `ended`, its signature with the buffers that it hands back, and
-- `Reads.Learnt`, what its `ensures` says about the arguments, the result and those buffers. Any two outcomes on the
-- same arguments that both meet it are equal, buffers included. The line that states this for a function breaks where
-- its contract is weakened.
abbrev pub OneOutcome : (T : Ended)
    → ((κs : Lfts T.signature.lifetimes) → Args T.signature κs → Res T.signature κs → AtExit T κs → Type 0) → Type 0
OneOutcome T ensured =
    (κs : Lfts T.signature.lifetimes) (args : Args T.signature κs) (r r' : Res T.signature κs) (left left' : Lasts T κs args)
    → ensured κs args r (at_exit T κs args left) → ensured κs args r' (at_exit T κs args left') → (r ≡ r') × (left ≡ left')

-- two values that equal a third are equal: the law that most such lines cite
pub one_value : {A : Type 0} {x r r' : A} → r ≡ x → r' ≡ x → r ≡ r'
one_value p q = p ∙ sym q

pub is_inside-one : OneOutcome is_inside.ended is_inside_reads.Learnt
is_inside-one κs args r r' left left' p q = (one_value p q, refl)
