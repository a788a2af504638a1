-- The frame after its header, by the tests and the calls that were made. Assumes nothing.
use Prim.Native.Nat.{ℕ, ◌+◌, ◌*◌, ◌≤◌, ◌<◌}
use native.Mathlib.Nat.{mul-le-mul}
use native.Mathlib.Omega.{arith}
use mathlib.Core.Bool.{true}
use mathlib.Core.Path.{◌≡◌, ap, sym, ◌∙◌, subst}
use mathlib.Core.List.{List, ◌++◌}
use borrow.Author.Rules.{rules}
use lib.IntN.{ℤ}
use lib.ListN.{length, take, drop}
use lib.Seq.{length-take-le}
use Rattle.reading.specs.Readers.{bits}
use Rattle.reading.specs.Places.{position, got_at, short_at, place_of, run_at}
use Rattle.reading.proofs.ByteRuns.{stays_in, and_fst}
use Rattle.reading.proofs.BitsTaken.{bits-there, bits-short}
use Rattle.reading.specs.declared.Place.{Place}
use Rattle.std.specs.Prelude.{Result, Some}
use Rattle.error.specs.declared.Refusal.{Refusal}
use Rattle.rfc9639.specs.HeaderCodes.{channel_count}
use Rattle.rfc9639.specs.declared.FrameHeader.{FrameHeader}
use Rattle.rfc9639.specs.declared.Settings.{Settings}
use Rattle.rfc9639.specs.Header.{header, sample_count}
use Rattle.rfc9639.specs.Stream.{in_range, bits_in_range, possible, completed, bits_read}
use Rattle.rfc9639.specs.Frame.{body}
use Rattle.demands.proofs.Headers.{Sound, header-sound}
use Rattle.demands.proofs.StreamRecords.{completed-count, completed-sound, read_bits_lem}
use Rattle.demands.proofs.StreamSettings.{size-in_range}
use Rattle.subframe.specs.Answers.{Left}
use Rattle.frame.proofs.StreamBlocks.{first_fits}
use Rattle.frame.proofs.AnswerCases.{no_bits, other-bits, larger_block, no_room, no_first_bit, body-read, body_refused}
use Rattle.frame.proofs.read_body.Goals as goal
use Rattle.frame.proofs.read_body.Goals.{then-not-bits_fit-via-then-not-bits_fit, then-not-bits_fit-via-else-not-bits_fit+then-not-block_fits}

-- the settings are possible
in_range_lem : (set : Settings) → possible set ≡ true → in_range set.block ≡ true
unfolding possible
in_range_lem set ok = and_fst (in_range set.block) (bits_in_range set.stream) ok

-- the header as it was read, then with the stream's values
module _ (set : Settings) (s : List ℕ) {own h : FrameHeader} {at : Place} (e : run_at header s (place_of 0) ≡ got_at own at) (whole : h ≡ completed set.stream own) where
  sound : bits_read h.bits ≡ true → Sound h
  sound some = subst Sound (sym whole) (completed-sound set.stream (header-sound s e) (subst (λ x. x.bits ≤ 24) whole (read_bits_lem h.bits some).1))

  few_samples : sample_count h ≤ 8 * 65535
  unfolding sample_count
  few_samples =
      let own-sound = header-sound s e in
      rw (ap sample_count whole ∙ completed-count set.stream own) (mul-le-mul {n₂ = 8} {m₂ = 65535} own-sound.channels own-sound.size)

-- the count of its samples
module _ (h : FrameHeader) {channels : ℕ} (counted : channels ≡ channel_count h.channels) where
  count_is : channels * h.size ≡ sample_count h
  unfolding sample_count
  count_is = ap (λ n. n * h.size) counted

  part_is : (out : List ℤ) → channels * h.size ≤ length out → length (take (channels * h.size) out) ≡ sample_count h
  part_is out fits = length-take-le (channels * h.size) out fits ∙ count_is

-- the header ends within the input, so the next bit is there if the byte is
first_bit : (s : List ℕ) {own : FrameHeader} (at : Place) → run_at header s (place_of 0) ≡ got_at own at → at.byte < length s → (v : ℕ) × (run_at (bits 1) s at ≡ got_at v (place_of (position at + 1)))
first_bit s at e there = let i = stays_in header s (place_of 0) e in bits-there 1 i (omega (arith, there, i.bit))

no_bit : (s : List ℕ) {own : FrameHeader} (at : Place) → run_at header s (place_of 0) ≡ got_at own at → length s ≤ at.byte → run_at (bits 1) s at ≡ short_at
no_bit s at e past = bits-short 1 (stays_in header s (place_of 0) e) (omega (arith, past))

pub overflow_mul-count : goal.overflow_mul-count
overflow_mul-count c = omega (arith, count_is c.complete-h.result c.channel_count-channels.ensures, few_samples c.args.set c.args.s.now (sym c.requires.1) c.complete-h.ensures)

pub returns-then-not-bits_read : goal.returns-then-not-bits_read
returns-then-not-bits_read c = no_bits c.args.set c.args.s.now c.args.out.now c.requires.0 (sym c.requires.1) c.complete-h.ensures (sym c.bits_read.ensures ∙ c.if-not-bits_read.true)

pub returns-then-not-bits_fit : goal.returns-then-not-bits_fit
returns-then-not-bits_fit c =
    elim c.then-not-bits_fit.branch [
      | then-not-bits_fit-via-then-not-bits_fit w ↦ other-bits c.args.set c.args.s.now c.args.out.now c.requires.0 (sym c.requires.1) c.complete-h.ensures (sym c.bits_read.ensures ∙ c.if-not-bits_read.false) (sym c.bits_fit.ensures ∙ w.if-not-bits_fit.true)
      | then-not-bits_fit-via-else-not-bits_fit+then-not-block_fits w ↦
          larger_block c.args.set c.args.s.now c.args.out.now c.requires.0 (sym c.requires.1) c.complete-h.ensures (sym c.bits_read.ensures ∙ c.if-not-bits_read.false) (sym c.bits_fit.ensures ∙ w.if-not-bits_fit.false) (sym w.block_fits.ensures ∙ w.if-not-block_fits.true)
    ]

pub returns-then-out-count : goal.returns-then-out-count
returns-then-out-count c =
    no_room c.args.set c.args.s.now c.args.out.now c.requires.0 (sym c.requires.1) c.complete-h.ensures (sym c.bits_read.ensures ∙ c.if-not-bits_read.false) (sym c.bits_fit.ensures ∙ c.if-not-bits_fit.false) (sym c.block_fits.ensures ∙ c.if-not-block_fits.false)
    (omega (arith, count_is c.complete-h.result c.channel_count-channels.ensures, c.if-out-count.true))

pub returns-then-s-at : goal.returns-then-s-at
returns-then-s-at c =
    no_first_bit c.args.set c.args.s.now c.args.out.now c.requires.0 (sym c.requires.1) c.complete-h.ensures (sym c.bits_read.ensures ∙ c.if-not-bits_read.false) (sym c.bits_fit.ensures ∙ c.if-not-bits_fit.false) (sym c.block_fits.ensures ∙ c.if-not-block_fits.false)
    (omega (arith, count_is c.complete-h.result c.channel_count-channels.ensures, c.if-out-count.false)) (no_bit c.args.s.now c.args.at (sym c.requires.1) c.if-s-at.true)

-- The product fits with the stream's size, and with the block's own: so a reader that takes its own is refused by the
-- promise, and not here.
pub first_sample-first-requires : goal.first_sample-first-requires
first_sample-first-requires c =
    let f = sound c.args.set c.args.s.now (sym c.requires.1) c.complete-h.ensures (sym c.bits_read.ensures ∙ c.if-not-bits_read.false) in
    search (rules, first_fits c.args.set.block _ (in_range_lem c.args.set c.requires.0) f.number, first_fits (Some c.complete-h.result.size) _ (size-in_range f.some f.size) f.number)

pub slice_bounds-decode_body-end-2 : goal.slice_bounds-decode_body-end-2
slice_bounds-decode_body-end-2 c = sym (length-take-le (c.channel_count-channels.result * c.complete-h.result.size) c.args.out.now c.if-out-count.false)

pub decode_body-requires : goal.decode_body-requires
decode_body-requires c =
    let f = sound c.args.set c.args.s.now (sym c.requires.1) c.complete-h.ensures (sym c.bits_read.ensures ∙ c.if-not-bits_read.false) in
    (f.mono, f.bits, part_is c.complete-h.result c.channel_count-channels.ensures c.args.out.now c.if-out-count.false)

stands : (h : FrameHeader) {channels : ℕ} → channels ≡ channel_count h.channels → (out front : List ℤ) → front ++ drop (channels * h.size) out ≡ front ++ drop (sample_count h) out
stands h counted out front = ap (λ n. front ++ drop n out) (count_is h counted)

-- a body whose decoding has begun: what was lent to it is put back
module _ (h : FrameHeader) {channels : ℕ} (counted : channels ≡ channel_count h.channels) (s : List ℕ) (at : Place) (out : List ℤ) (fits : channels * h.size ≤ length out) {r : Result Place Refusal} (front : List ℤ) where
  left : Left (run_at (body h) s at) (length (take (channels * h.size) out)) r front → Left (run_at (body h) s at) (sample_count h) r front
  left l = subst (λ n. Left (run_at (body h) s at) n r front) (part_is h counted out fits) l

pub returns : goal.returns
returns c =
    let h = c.complete-h.result in
    let counted = c.channel_count-channels.ensures in
    let front = c.decode_body.new.out in
    body-read c.args.set c.args.s.now c.args.out.now c.requires.0 (sym c.requires.1) c.complete-h.ensures (sym c.bits_read.ensures ∙ c.if-not-bits_read.false) (sym c.bits_fit.ensures ∙ c.if-not-bits_fit.false) (sym c.block_fits.ensures ∙ c.if-not-block_fits.false)
    (omega (arith, count_is h counted, c.if-out-count.false)) (first_bit c.args.s.now c.args.at (sym c.requires.1) c.if-s-at.false).1 (stands h counted c.args.out.now front)
    (left h counted c.args.s.now c.args.at c.args.out.now c.if-out-count.false front c.in_ok-end.ensures)
    (c.decode_body.auto.out ∙ part_is h counted c.args.out.now c.if-out-count.false) c.first_sample-first.ensures counted

pub returns-in_err-end : goal.returns-in_err-end
returns-in_err-end c =
    let h = c.complete-h.result in
    let counted = c.channel_count-channels.ensures in
    let front = c.decode_body.new.out in
    body_refused c.args.set c.args.s.now c.args.out.now c.requires.0 (sym c.requires.1) c.complete-h.ensures (sym c.bits_read.ensures ∙ c.if-not-bits_read.false) (sym c.bits_fit.ensures ∙ c.if-not-bits_fit.false) (sym c.block_fits.ensures ∙ c.if-not-block_fits.false)
    (omega (arith, count_is h counted, c.if-out-count.false)) (first_bit c.args.s.now c.args.at (sym c.requires.1) c.if-s-at.false).1 (stands h counted c.args.out.now front)
    _ c.from_residual.ensures.1 (left h counted c.args.s.now c.args.at c.args.out.now c.if-out-count.false front c.in_err-end.ensures)
