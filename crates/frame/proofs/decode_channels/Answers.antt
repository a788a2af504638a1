-- Each turn lends the next part of the buffer to the decoder of a channel. Assumes nothing.
use Prim.Native.Nat.{ℕ, ◌*◌, ◌≤◌, ◌<◌}
use native.Mathlib.Omega.{arith}
use mathlib.Core.Path.{◌≡◌, ap, sym, ◌∙◌}
use lib.ListN.{length, get_or}
use Rattle.rfc9639.specs.declared.FrameHeader.{FrameHeader}
use Rattle.rfc9639.specs.HeaderCodes.{channel_count}
use Rattle.rfc9639.specs.Header.{sample_count}
use Rattle.rfc9639.specs.Frame.{widths}
use Rattle.subframe.proofs.SliceParts.{samples_stop}
use Rattle.frame.proofs.FrameBody.{length-widths, width_few, begin, part-fits, step, stops, end}
use Rattle.frame.proofs.decode_channels.Goals as goal

-- as many widths as channels
widths-count : (h : FrameHeader) {n : ℕ} → n ≡ channel_count h.channels → length (widths h.channels h.bits) ≡ n
widths-count h e = length-widths h.channels h.bits ∙ sym e

-- each turn has a width
wide : (h : FrameHeader) {n i : ℕ} → n ≡ channel_count h.channels → i < n → i < length (widths h.channels h.bits)
wide h e l = omega (arith, widths-count h e)

few : (h : FrameHeader) {n i : ℕ} → h.bits ≤ 24 → n ≡ channel_count h.channels → i < n → get_or (widths h.channels h.bits) i 0 ≤ 32
few h {n} {i} b e l = width_few h.channels h.bits i b (omega (arith, e))

pub loop-channel-init : goal.loop-channel-init
unfolding sample_count
loop-channel-init c =
    let h = c.args.h in
    begin _ _ _ (c.requires.2 ∙ ap (λ m. m * h.size) (sym (length-widths h.channels h.bits)))

pub overflow_mul-start : goal.overflow_mul-start
overflow_mul-start c = omega (arith, part-fits c.loop-channel.invariant (wide c.args.h c.channel_count-channel-end.ensures c.loop-channel-test.true))

pub overflow_add-start : goal.overflow_add-start
overflow_add-start c = omega (arith, part-fits c.loop-channel.invariant (wide c.args.h c.channel_count-channel-end.ensures c.loop-channel-test.true))

pub offset_bounds-out-start : goal.offset_bounds-out-start
offset_bounds-out-start c = omega (arith, part-fits c.loop-channel.invariant (wide c.args.h c.channel_count-channel-end.ensures c.loop-channel-test.true))

pub slice_bounds-decode-end : goal.slice_bounds-decode-end
slice_bounds-decode-end c = part-fits c.loop-channel.invariant (wide c.args.h c.channel_count-channel-end.ensures c.loop-channel-test.true)

pub loop-channel-preserved : goal.loop-channel-preserved
loop-channel-preserved c =
    step c.loop-channel.invariant (wide c.args.h c.channel_count-channel-end.ensures c.loop-channel-test.true) c.width_of-width.ensures
    (few c.args.h c.requires.1 c.channel_count-channel-end.ensures c.loop-channel-test.true) c.in_ok-p.ensures.answer c.decode.auto.out

pub returns-in_err-p : goal.returns-in_err-p
returns-in_err-p c =
    samples_stop _ _ c.from_residual.ensures.1
    (stops c.loop-channel.invariant (wide c.args.h c.channel_count-channel-end.ensures c.loop-channel-test.true) c.width_of-width.ensures
    (few c.args.h c.requires.1 c.channel_count-channel-end.ensures c.loop-channel-test.true) _ c.in_err-p.ensures.answer) _

pub returns : goal.returns
returns c =
    let count = widths-count c.args.h c.channel_count-channel-end.ensures in
    end c.loop-channel.invariant (omega (arith, count, c.channel_count-channel-end.ensures, c.requires.0)) (omega (arith, count))
