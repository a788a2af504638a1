-- The whole header: its start, then the blocks up to the last one. Assumes nothing.
use native.Mathlib.Omega.{arith}
use mathlib.Core.Path.{refl, ap, sym, ◌∙◌}
use Rattle.reading.specs.Readers.{done}
use Rattle.reading.proofs.ByteRuns.{stays_in, in_inside}
use Rattle.reading.proofs.BitsTaken.{ends_at_byte}
use Rattle.rfc9639.specs.StreamHeader.{skipped_blocks, stream_start, stream_header, stream_header_of}
use Rattle.rfc9639.proofs.StreamHeaderBits.{start-takes, blocks-take}
use Rattle.stream.specs.Answers.{stream_at}
use Rattle.stream.proofs.ReadSteps.{exit, goes_on, refused_first, ends}
use Rattle.stream.proofs.read_stream_header.Goals as goal

pub returns-in_err-last : goal.returns-in_err-last
unfolding stream_header_of stream_header
returns-in_err-last c = ap stream_at (exit _ _ c.from_residual.ensures.1) ∙ refused_first stream_start _ _ _ _ c.in_err-last.ensures

pub returns-then-last : goal.returns-then-last
unfolding stream_header_of stream_header
returns-then-last c =
    goes_on stream_start _ _ _ c.in_ok-last.ensures
    (λ i. rw c.if-last.true (goes_on (done tt) _ _ _ (ends _ _ _ i) (λ j. ends _ _ _ j)))

pub skip_blocks-requires : goal.skip_blocks-requires
skip_blocks-requires c =
    let e = sym c.in_ok-last.ensures in
    (omega (arith, start-takes.taken _ _ _ _ e, (stays_in stream_start _ _ e).end), in_inside _ _ (stays_in stream_start _ _ e))

pub returns-in_err-end : goal.returns-in_err-end
unfolding stream_header_of stream_header
returns-in_err-end c =
    goes_on stream_start _ _ _ c.in_ok-last.ensures
    (λ _. rw c.if-last.false
    (ap stream_at (exit _ _ c.from_residual-in_err-end.ensures.1) ∙ refused_first (skipped_blocks _) _ _ _ _ c.in_err-end.ensures))

pub returns : goal.returns
unfolding stream_header_of stream_header
returns c =
    goes_on stream_start _ _ _ c.in_ok-last.ensures
    (λ _. rw c.if-last.false
    (goes_on (skipped_blocks _) _ _ _ (sym (ends_at_byte (blocks-take _) _ _ refl (sym c.in_ok-end.ensures))) (λ i. ends _ _ _ i)))
