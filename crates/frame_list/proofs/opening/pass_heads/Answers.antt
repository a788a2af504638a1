-- `frame_list::opening::pass_heads` meets its contract: each head leads to the next block, and is past the last. Assumes
-- nothing.
use native.Mathlib.Omega.{arith}
use mathlib.Core.Path.{◌≡◌, ap, sym}
use mathlib.Core.Bool.{true≢false}
use Rattle.error.specs.declared.Refusal.{Refusal}
use Rattle.error.proofs.Outcome.{number-tells}
use Rattle.reading.specs.declared.Place.{Place}
use Rattle.frame_list.proofs.MetadataBlocks.{hopping, head_is, hop_on, hop_refused, hops-done}
use Rattle.frame_list.proofs.opening.pass_heads.Goals as goal

pub loop-last-init : goal.loop-last-init
loop-last-init c = hopping _ _ _

pub overflow_add-pass : goal.overflow_add-pass
overflow_add-pass c =
    let h = head_is _ _ (sym c.in-Ok.ensures) in
    record { fits = omega (arith, ap (λ (p : Place). p.byte) h.ends, h.there, h.few) }

pub loop-last-smaller : goal.loop-last-smaller
loop-last-smaller c =
    let h = head_is _ _ (sym c.in-Ok.ensures) in
    omega (arith, ap (λ (p : Place). p.byte) h.ends, h.there)

pub loop-last-preserved : goal.loop-last-preserved
loop-last-preserved c = hop_on c.loop-last.invariant c.loop-last-test.true (sym c.in-Ok.ensures)

pub returns : goal.returns
returns c = hops-done c.loop-last.invariant c.loop-last-test.false

pub returns-in-Err-2 : goal.returns-in-Err-2
returns-in-Err-2 c =
    hop_refused c.loop-last.invariant c.loop-last-test.true _ c.in-Err.ensures
    (λ n. let same : c.in-Err.e ≡ Refusal.CutShort = number-tells c.in-Err.e Refusal.CutShort n in true≢false (sym (rw same at c.if-eq.ensures)))
