-- `runner::step` stays within the bytes and the samples. Assumes nothing.
use Rattle.std.proofs.Common.{arith, sym}
use lib.Seq.{length-take-le}
use Rattle.walk.proofs.NextPlace.{left-length, frame-moves-place, place_in_input, frame-samples-fit}
use Rattle.runner.proofs.step.Goals as goal

pub overflow_mul-f : goal.overflow_mul-f
overflow_mul-f c = omega (arith, frame-samples-fit _ _ _ _ c.read_next-read.ensures c.in-Ok.is, c.requires.1)

pub slice_bounds-write_samples-end : goal.slice_bounds-write_samples-end
slice_bounds-write_samples-end c =
    omega (arith, frame-samples-fit _ _ _ _ c.read_next-read.ensures c.in-Ok.is, left-length _ _ _ _ c.read_next-read.ensures)

pub slice_bounds-write_samples-end-in-Ok : goal.slice_bounds-write_samples-end-in-Ok
slice_bounds-write_samples-end-in-Ok c =
    sym (length-take-le _ _ (omega (arith, frame-samples-fit _ _ _ _ c.read_next-read.ensures c.in-Ok.is, left-length _ _ _ _ c.read_next-read.ensures)))

pub returns-in-Ok : goal.returns-in-Ok
returns-in-Ok c = (frame-moves-place _ _ _ _ c.read_next-read.ensures c.in-Ok.is, place_in_input _ _ _ _ c.read_next-read.ensures c.in-Ok.is)
