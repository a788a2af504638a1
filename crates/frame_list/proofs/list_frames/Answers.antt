-- `frame_list::list_frames` meets its contract: each step takes a byte and keeps the list the same. Assumes nothing.
use Prim.Native.Nat.{ℕ, ◌+◌}
use native.Mathlib.Omega.{arith}
use mathlib.Core.Path.{ap, sym, ◌∙◌}
use lib.ListN.{length, drop}
use Rattle.rfc9639.specs.declared.Settings.{Settings}
use Rattle.std.specs.Prelude.{Option}
use Rattle.walk.proofs.NextPlace.{left-length, frame-moves-place, place_in_input, frame-samples-fit}
use Rattle.frame_list.specs.declared.Totals.{Totals}
use Rattle.frame_list.specs.Listing.{with_block, listed_as}
use Rattle.frame_list.proofs.ListedFrames.{step-frame, step-refused}
use Rattle.frame_list.proofs.list_frames.Goals as goal

pub with_frame-totals-requires : goal.with_frame-totals-requires
with_frame-totals-requires c = omega (arith, frame-samples-fit _ _ _ _ c.read_next-step.ensures c.in-Ok.is)

pub loop-f-smaller : goal.loop-f-smaller
loop-f-smaller c =
    omega (arith, frame-moves-place _ _ _ _ c.read_next-step.ensures c.in-Ok.is, place_in_input _ _ _ _ c.read_next-step.ensures c.in-Ok.is)

pub loop-f-preserved : goal.loop-f-preserved
loop-f-preserved c =
    let set : Settings = record { block = c.stream_block.result; stream = c.args.before.stream } in
    let i = c.loop-f.invariant in
    (place_in_input _ _ _ _ c.read_next-step.ensures c.in-Ok.is, left-length _ _ _ _ c.read_next-step.ensures ∙ i.1, ap (λ (t : Totals). listed_as set (length c.args.samples.now) (c.args.base + c.read_next-step.result.place) t (drop c.read_next-step.result.place c.args.bytes.now)) c.with_frame-totals.ensures ∙ sym (step-frame _ _ _ _ _ i.1 c.read_next-step.ensures _ c.in-Ok.is) ∙ i.2)

pub returns-in-Err : goal.returns-in-Err
returns-in-Err c =
    let i = c.loop-f.invariant in
    let settled-first = ap (λ (b : Option ℕ). listed_as (record { block = b; stream = c.args.before.stream }) (length c.args.samples.now) c.args.base (with_block c.args.before b) c.args.bytes.now) (sym c.stream_block.ensures) in
    record { place-fits = i.0; all = settled-first ∙ sym i.2 ∙ step-refused _ _ _ _ _ i.1 c.read_next-step.ensures _ c.in-Err.is }
