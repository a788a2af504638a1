-- `sample_at` meets its contract, lane by lane: what it reads lies within the lent samples. Assumes nothing.
use Prim.Native.Nat.{◌+◌, ◌*◌}
use native.Mathlib.Omega.{arith}
use borrow.Author.Rules.{rules}
use lib.IntN.{pos}
use lib.ListN.{get_or}
use mir.Syntax.{w32}
use mir.Val.{SFits}
use Rattle.rfc9639.proofs.MachineIntegers.{widen_fits}
use Rattle.subframe_samples.proofs.StoredSamples.{stored-channel, stored-mid, stored-side, channel-inside, channel-sample, both-inside, both-sample, mid_abs, side_abs}
use Rattle.subframe_samples.proofs.sample.sample_at.Goals as goal

pub overflow_mul-result : goal.overflow_mul-result
overflow_mul-result c =
    omega (arith, channel-inside (stored-channel c.args.source.now.size c.args.source.now.samples.now c.in-Channel.is) c.args.i c.requires)

pub overflow_add-result : goal.overflow_add-result
overflow_add-result c =
    omega (arith, channel-inside (stored-channel c.args.source.now.size c.args.source.now.samples.now c.in-Channel.is) c.args.i c.requires)

pub offset_bounds-samples-c : goal.offset_bounds-samples-c
offset_bounds-samples-c c =
    omega (arith, channel-inside (stored-channel c.args.source.now.size c.args.source.now.samples.now c.in-Channel.is) c.args.i c.requires)

pub bounds-samples-c : goal.bounds-samples-c
bounds-samples-c c = channel-inside (stored-channel c.args.source.now.size c.args.source.now.samples.now c.in-Channel.is) c.args.i c.requires

-- what is read is an i32
pub overflow_cast-result-in-Channel : goal.overflow_cast-result-in-Channel
overflow_cast-result-in-Channel c =
    let f : SFits w32 (get_or c.args.source.now.samples.now (c.in-Channel.c * c.args.source.now.size + c.args.i) (pos 0)) = record { sfits = search rules } in
    widen_fits f

pub returns-in-Channel : goal.returns-in-Channel
returns-in-Channel c =
    channel-sample (stored-channel c.args.source.now.size c.args.source.now.samples.now c.in-Channel.is) c.args.i c.requires (record { sfits = search rules })

pub pair_at-left-requires : goal.pair_at-left-requires
pair_at-left-requires c = both-inside (stored-mid c.args.source.now.size c.args.source.now.samples.now c.in-Mid.is) c.args.i c.requires

pub returns-in-Mid : goal.returns-in-Mid
returns-in-Mid c =
    both-sample (stored-mid c.args.source.now.size c.args.source.now.samples.now c.in-Mid.is) c.args.i c.requires mid_abs
    (record { sfits = search rules }) (record { sfits = search rules }) c.pair_at-left.ensures (record { sfits = c.mid.type_inv }) c.mid.ensures

pub pair_at-left-requires-in-Side : goal.pair_at-left-requires-in-Side
pair_at-left-requires-in-Side c = both-inside (stored-side c.args.source.now.size c.args.source.now.samples.now c.in-Side.is) c.args.i c.requires

pub returns-in-Side : goal.returns-in-Side
returns-in-Side c =
    both-sample (stored-side c.args.source.now.size c.args.source.now.samples.now c.in-Side.is) c.args.i c.requires side_abs
    (record { sfits = search rules }) (record { sfits = search rules }) c.pair_at-left-in-Side.ensures (record { sfits = c.side.type_inv }) c.side.ensures
