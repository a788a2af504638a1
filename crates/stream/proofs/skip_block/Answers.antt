-- One block skipped, as the definition reads it. Assumes nothing.
use Prim.Native.Nat.{ℕ, ◌^◌, ◌<◌}
use native.Mathlib.Omega.{arith}
use mathlib.Core.Path.{◌≡◌, ap, sym, ◌∙◌, subst}
use mathlib.Core.Bool.{Bool}
use mathlib.Core.List.{List}
use Rattle.reading.specs.declared.Place.{Place}
use Rattle.reading.specs.Places.{got_at, run_at}
use Rattle.reading.proofs.ByteRuns.{stays_in}
use Rattle.reading.proofs.Postconditions.{Meets, holds_at}
use Rattle.error.specs.Answers.{read_at}
use Rattle.rfc9639.specs.StreamHeader.{block_head, skipped_block}
use Rattle.rfc9639.proofs.StreamHeaderValues.{StreamRefusal, head_holds}
use Rattle.stream.proofs.ReadSteps.{exit, refused_first}
use Rattle.stream.proofs.SkippedBlocks.{block-there, block-cut}
use Rattle.stream.proofs.skip_block.Goals as goal

size_few : (s : List ℕ) (at : Place) {x : Bool × ℕ} {p : Place} → run_at block_head s at ≡ got_at x p → x.1 < 2 ^ 24
size_few s at e = subst (Meets StreamRefusal (λ x. x.1 < 2 ^ 24)) e (holds_at StreamRefusal _ _ _ head_holds)

pub returns-in_err-last : goal.returns-in_err-last
unfolding skipped_block
returns-in_err-last c = ap read_at (exit _ _ c.from_residual.ensures.1) ∙ refused_first block_head _ _ _ _ c.in_err-last.ensures

pub overflow_add-end : goal.overflow_add-end
overflow_add-end c =
    let e = sym c.in_ok-last.ensures in omega (arith, size_few _ _ e, (stays_in block_head _ _ e).end, c.well_formed.0)

pub returns-then-not-is_inside : goal.returns-then-not-is_inside
returns-then-not-is_inside c = sym (block-cut _ _ (sym c.in_ok-last.ensures) (cc))

pub returns : goal.returns
returns c = sym (block-there _ _ (sym c.in_ok-last.ensures) (cc))
