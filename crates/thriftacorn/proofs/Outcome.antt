-- Any two outcomes that meet an exported function's contract are equal. Assumes nothing.
use Prim.Native.Nat.{ℕ, ◌+◌}
use native.Mathlib.Omega.{arith}
use mathlib.Core.Path.{◌≡◌, refl, ap}
use Rattle.reading.proofs.Outcome.{OneOutcome, one_value}
use Rattle.rfc9639.specs.Write.{Written}
use Rattle.block.specs.Reports.{ChannelReport, SampleReport, PairReport}
use Rattle.thriftacorn.specs.Exports.{StreamNumbers}
use Rattle.thriftacorn.specs.contracts.read.thriftacorn_read_frame_v1 as read-frame
use Rattle.thriftacorn.proofs.read.thriftacorn_read_frame_v1.Reads as read-frame_reads
use Rattle.thriftacorn.specs.contracts.read.thriftacorn_read_next_v1 as read_next
use Rattle.thriftacorn.proofs.read.thriftacorn_read_next_v1.Reads as read_next_reads
use Rattle.thriftacorn.specs.contracts.read.thriftacorn_read_frame_v2 as read-frame-v2
use Rattle.thriftacorn.proofs.read.thriftacorn_read_frame_v2.Reads as read-frame-v2_reads
use Rattle.thriftacorn.specs.contracts.read.thriftacorn_read_next_v2 as read-next-v2
use Rattle.thriftacorn.proofs.read.thriftacorn_read_next_v2.Reads as read-next-v2_reads
use Rattle.thriftacorn.specs.contracts.read.thriftacorn_read_frame_v3 as read-frame-v3
use Rattle.thriftacorn.proofs.read.thriftacorn_read_frame_v3.Reads as read-frame-v3_reads
use Rattle.thriftacorn.specs.contracts.read.thriftacorn_read_next_v3 as read-next-v3
use Rattle.thriftacorn.proofs.read.thriftacorn_read_next_v3.Reads as read-next-v3_reads
use Rattle.thriftacorn.specs.contracts.read.thriftacorn_stream_block_v1 as stream-block
use Rattle.thriftacorn.proofs.read.thriftacorn_stream_block_v1.Reads as stream-block_reads
use Rattle.thriftacorn.specs.contracts.stream_header.thriftacorn_read_stream_header_v1 as read-stream-header
use Rattle.thriftacorn.proofs.stream_header.thriftacorn_read_stream_header_v1.Reads as read-stream-header_reads
use Rattle.thriftacorn.specs.contracts.write.thriftacorn_write_frame_v1 as write-frame
use Rattle.thriftacorn.proofs.write.thriftacorn_write_frame_v1.Reads as write-frame_reads
use Rattle.thriftacorn.specs.contracts.write.thriftacorn_longest_v1 as longest
use Rattle.thriftacorn.proofs.write.thriftacorn_longest_v1.Reads as longest_reads
use Rattle.thriftacorn.specs.contracts.samples.thriftacorn_channel_v1 as channel
use Rattle.thriftacorn.proofs.samples.thriftacorn_channel_v1.Reads as channel_reads
use Rattle.thriftacorn.specs.contracts.samples.thriftacorn_sample_v1 as sample
use Rattle.thriftacorn.proofs.samples.thriftacorn_sample_v1.Reads as sample_reads
use Rattle.thriftacorn.specs.contracts.samples.thriftacorn_pair_v1 as pair
use Rattle.thriftacorn.proofs.samples.thriftacorn_pair_v1.Reads as pair_reads

pub read_frame_v1_one : OneOutcome read-frame.ended read-frame_reads.Learnt
read_frame_v1_one κs args r r' left left' p q =
    let e = one_value p.numbers q.numbers in
    let s = one_value p.samples q.samples in
    (λ i. (e i).refusal, λ i. (tt, (s i, ((e i).consumed, ((e i).first, ((e i).channels, ((e i).bits, ((e i).size, tt))))))))

moved-one : (place : ℕ) {next next' n n' : ℕ} → next ≡ place + n → next' ≡ place + n' → n ≡ n' → next ≡ next'
moved-one place p q e = omega arith

pub read_next_v1_one : OneOutcome read_next.ended read_next_reads.Learnt
read_next_v1_one κs args r r' left left' p q =
    let e = one_value p.answer.numbers q.answer.numbers in
    let s = one_value p.answer.samples q.answer.samples in
    let m = moved-one _ p.moved q.moved (λ i. (e i).consumed) in
    (λ i. (e i).refusal, λ i. (tt, (m i, (s i, ((e i).consumed, ((e i).first, ((e i).channels, ((e i).bits, ((e i).size, tt)))))))))

pub read_frame_v2_one : OneOutcome read-frame-v2.ended read-frame-v2_reads.Learnt
read_frame_v2_one κs args r r' left left' p q =
    let e = one_value p.answer.numbers q.answer.numbers in
    let s = one_value p.answer.samples q.answer.samples in
    let k = one_value p.flag q.flag in
    (λ i. (e i).refusal, λ i. (tt, (tt, (tt, (s i, ((e i).consumed, (k i, ((e i).first, ((e i).channels, ((e i).bits, ((e i).size, tt)))))))))))

pub read_next_v2_one : OneOutcome read-next-v2.ended read-next-v2_reads.Learnt
read_next_v2_one κs args r r' left left' p q =
    let e = one_value p.frame.answer.numbers q.frame.answer.numbers in
    let s = one_value p.frame.answer.samples q.frame.answer.samples in
    let k = one_value p.frame.flag q.frame.flag in
    let m = moved-one _ p.moved q.moved (λ i. (e i).consumed) in
    (λ i. (e i).refusal, λ i. (tt, (m i, (tt, (tt, (s i, ((e i).consumed, (k i, ((e i).first, ((e i).channels, ((e i).bits, ((e i).size, tt))))))))))))

pub read_frame_v3_one : OneOutcome read-frame-v3.ended read-frame-v3_reads.Learnt
read_frame_v3_one κs args r r' left left' p q =
    let e = one_value p.answer.numbers q.answer.numbers in
    let s = one_value p.answer.samples q.answer.samples in
    let k = one_value p.flag q.flag in
    let f = one_value p.rate-flag q.rate-flag in
    let h = one_value p.hertz q.hertz in
    (λ i. (e i).refusal, λ i. (tt, (tt, (tt, (tt, (tt, (tt, (s i, ((e i).consumed, (k i, ((e i).first, (f i, (h i, ((e i).channels, ((e i).bits, ((e i).size, tt))))))))))))))))

pub read_next_v3_one : OneOutcome read-next-v3.ended read-next-v3_reads.Learnt
read_next_v3_one κs args r r' left left' p q =
    let e = one_value p.frame.answer.numbers q.frame.answer.numbers in
    let s = one_value p.frame.answer.samples q.frame.answer.samples in
    let k = one_value p.frame.flag q.frame.flag in
    let f = one_value p.frame.rate-flag q.frame.rate-flag in
    let h = one_value p.frame.hertz q.frame.hertz in
    let m = moved-one _ p.moved q.moved (λ i. (e i).consumed) in
    (λ i. (e i).refusal, λ i. (tt, (m i, (tt, (tt, (tt, (tt, (tt, (s i, ((e i).consumed, (k i, ((e i).first, (f i, (h i, ((e i).channels, ((e i).bits, ((e i).size, tt)))))))))))))))))

pub read_stream_header_v1_one : OneOutcome read-stream-header.ended read-stream-header_reads.Learnt
read_stream_header_v1_one κs args r r' left left' p q =
    let e : ◌≡◌ {A = StreamNumbers} _ _ = one_value p q in
    (λ i. (e i).refusal, λ i. (tt, ((e i).consumed, ((e i).smallest, ((e i).largest, ((e i).shortest, ((e i).longest, ((e i).rate, ((e i).channels, ((e i).bits, ((e i).samples, ((e i).high, ((e i).low, tt)))))))))))))

pub stream_block_v1_one : OneOutcome stream-block.ended stream-block_reads.Learnt
stream_block_v1_one κs args r r' left left' p q =
    let b = one_value p.size q.size in
    (one_value p.flag q.flag, λ i. (tt, (b i, tt)))

pub write_frame_v1_one : OneOutcome write-frame.ended write-frame_reads.Learnt
write_frame_v1_one κs args r r' left left' p q =
    let e : ◌≡◌ {A = Written} _ _ = one_value p q in
    (ap (λ (o : Written). o.number) e, ap (λ (o : Written). (tt, (tt, (tt, (tt, (tt, (tt, (o.output, (o.length, tt))))))))) e)

pub longest_v1_one : OneOutcome longest.ended longest_reads.Learnt
longest_v1_one κs args r r' left left' p q = (one_value p q, refl)

pub channel_v1_one : OneOutcome channel.ended channel_reads.Learnt
channel_v1_one κs args r r' left left' p q =
    let e : ◌≡◌ {A = ChannelReport} _ _ = one_value p q in
    (ap (λ (o : ChannelReport). o.number) e, ap (λ (o : ChannelReport). (tt, (tt, (tt, (tt, (o.start, (o.end, tt))))))) e)

pub sample_v1_one : OneOutcome sample.ended sample_reads.Learnt
sample_v1_one κs args r r' left left' p q =
    let e : ◌≡◌ {A = SampleReport} _ _ = one_value p q in
    (ap (λ (o : SampleReport). o.number) e, ap (λ (o : SampleReport). (tt, (tt, (tt, (tt, (tt, (o.value, tt))))))) e)

pub pair_v1_one : OneOutcome pair.ended pair_reads.Learnt
pair_v1_one κs args r r' left left' p q =
    let e : ◌≡◌ {A = PairReport} _ _ = one_value p q in
    (ap (λ (o : PairReport). o.number) e, ap (λ (o : PairReport). (tt, (tt, (tt, (tt, (o.left, (o.right, tt))))))) e)
