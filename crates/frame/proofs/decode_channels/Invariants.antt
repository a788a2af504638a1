-- Each turn lends the next part of the buffer to the decoder of a channel. Assumes nothing.
use Rattle.rfc9639.specs.Frame.{widths}
use Rattle.frame.proofs.FrameBody.{PartsRead}
use Rattle.frame.proofs.decode_channels.Given as goal

abbrev pub invariant-loop-channel : goal.invariant-loop-channel
invariant-loop-channel l = PartsRead l.h.size (widths l.h.channels l.h.bits) l.s l.initial.p l.initial.out l.out l.channel l.p
