-- `decode_subframe`: a header and what follows it, for a width of at most 32. Assumes nothing.
use native.Mathlib.Omega.{arith}
use mathlib.Core.Path.{sym, ◌∙◌}
use lib.ListN.{length}
use Rattle.reading.proofs.ByteRuns.{bind_got_lem}
use Rattle.rfc9639.specs.Subframe.{subframe_header, subframe_after_header, subframe}
use Rattle.subframe.proofs.SliceParts.{passed_on}
use Rattle.subframe.proofs.HeaderBounds.{header-sound}
use Rattle.subframe.proofs.DecodedSubframes.{too_wide, not_wide}
use Rattle.subframe.proofs.decode_subframe.Goals as goal

pub returns-then-width-gt32 : goal.returns-then-width-gt32
returns-then-width-gt32 c = let a = c.args in too_wide a.width (length a.out.now) a.s.now a.at c.if-width-gt32.true

pub returns-in_err-h : goal.returns-in_err-h
unfolding subframe
returns-in_err-h c =
    let a = c.args in
    passed_on (subframe_header a.width) a.s.now a.at (subframe_after_header (length a.out.now) a.width) _ _ c.from_residual.ensures.1 c.in_err-h.ensures _
    ∙ not_wide a.width (length a.out.now) a.s.now a.at c.if-width-gt32.false

pub decode_after_header-requires : goal.decode_after_header-requires
decode_after_header-requires c =
    let a = c.args in
    let sound = header-sound a.width a.s.now a.at (sym c.in_ok-h.ensures) in (c.if-width-gt32.false, sound.orderly, omega (arith, sound.narrow))

pub returns : goal.returns
unfolding subframe
returns c =
    let a = c.args in
    c.decode_after_header.ensures
    ∙ sym (bind_got_lem (subframe_header a.width) a.s.now a.at (subframe_after_header (length a.out.now) a.width) (sym c.in_ok-h.ensures))
    ∙ not_wide a.width (length a.out.now) a.s.now a.at c.if-width-gt32.false
