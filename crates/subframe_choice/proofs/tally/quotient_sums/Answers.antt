-- `quotient_sums` meets its contract: a turn for each residual (Tallied). Assumes nothing.
use Prim.Native.Nat.{ℕ, ◌^◌, ◌<◌}
use native.Mathlib.Omega.{arith}
use mathlib.Core.Path.{◌≡◌, ap, ◌∙◌}
use lib.IntN.{ℤ}
use lib.ListN.{length}
use mir.Syntax.{w64}
use mir.Val.{SFits, to_z, of_z}
use mir.Facts.{to_z-of_z}
use Rattle.rfc9639.specs.SubframeCoding.{fold, fixed_residuals}
use Rattle.subframe_samples.specs.Sources.{stored_by}
use Rattle.subframe_choice.proofs.QuotientSums.{begin-tally, long, under, folded-small, step-tally, end-tally}
use Rattle.subframe_choice.proofs.tally.quotient_sums.Goals as goal

pub loop-j-init : goal.loop-j-init
loop-j-init c = begin-tally _

folded : {f : ℕ} {r : ℤ} → SFits w64 r → f ≡ fold (to_z w64 (of_z w64 r)) → f ≡ fold r
folded l e = e ∙ ap fold (to_z-of_z l)

pub add_quotients-requires : goal.add_quotients-requires
add_quotients-requires c =
    let i = c.loop-j.invariant in
    let h : length (fixed_residuals c.args.order (stored_by c.args.source.now)) < 2 ^ 16 = omega arith in
    let e = c.fixed_residual.ensures in
    (long i h, under i h, folded-small i h e.0 e.1 (folded (record { sfits = c.fixed_residual.type_inv }) c.fold-folded.ensures))

pub loop-j-preserved : goal.loop-j-preserved
loop-j-preserved c =
    let h : length (fixed_residuals c.args.order (stored_by c.args.source.now)) < 2 ^ 16 = omega arith in
    let e = c.fixed_residual.ensures in
    step-tally c.loop-j.invariant h e.0 e.1 (folded (record { sfits = c.fixed_residual.type_inv }) c.fold-folded.ensures) (omega arith) c.add_quotients.ensures

pub returns : goal.returns
returns c =
    let i = c.loop-j.invariant in
    let h : length (fixed_residuals c.args.order (stored_by c.args.source.now)) < 2 ^ 16 = omega arith in
    (end-tally i h (omega arith), under i h)
