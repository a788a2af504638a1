-- `len` meets its contract, lane by lane. Assumes nothing.
use native.Mathlib.Omega.{arith}
use mathlib.Core.Path.{sym, ◌∙◌}
use Rattle.subframe_samples.proofs.StoredSamples.{length-channel, length_both, stored-channel, stored-mid, stored-side}
use Rattle.subframe_samples.proofs.Source.len.Goals as goal

pub returns-in-Channel : goal.returns-in-Channel
returns-in-Channel c = (c.channel_len.ensures ∙ sym (length-channel (stored-channel c.args.self.now.size c.args.self.now.samples.now c.in-Channel.is)), omega (arith, c.channel_len.ensures))

pub returns-in-Mid : goal.returns-in-Mid
returns-in-Mid c = (c.channel_len-in-Mid.ensures ∙ sym (length_both (stored-mid c.args.self.now.size c.args.self.now.samples.now c.in-Mid.is)), omega (arith, c.channel_len-in-Mid.ensures))

pub returns-in-Side : goal.returns-in-Side
returns-in-Side c = (c.channel_len-in-Side.ensures ∙ sym (length_both (stored-side c.args.self.now.size c.args.self.now.samples.now c.in-Side.is)), omega (arith, c.channel_len-in-Side.ensures))
