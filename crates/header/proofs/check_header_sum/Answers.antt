-- The check sum over the bytes before it, as the definition reads it. Assumes nothing.
use native.Mathlib.Omega.{arith}
use mathlib.Core.Path.{refl, sym}
use lib.Seq.{length-take-le}
use Rattle.reading.proofs.ByteRuns.{inside_in, run_at-out}
use Rattle.rfc9639.specs.CheckSums.{crc8}
use Rattle.rfc9639.specs.Header.{header_sum}
use Rattle.header.proofs.ReaderSteps.{bits_read, passed_exits}
use Rattle.header.proofs.StoredSum.{no_sum, sum_differs, sum_fits}
use Rattle.header.proofs.check_header_sum.Goals as goal

pub returns-then-not-is_inside : goal.returns-then-not-is_inside
returns-then-not-is_inside c = sym (run_at-out _ _ _ (cc))

pub slice_bounds-crc8-end : goal.slice_bounds-crc8-end
slice_bounds-crc8-end c = sym (length-take-le _ _ (omega (arith, (inside_in c.args.s.now c.args.at (cc)).end)))

pub returns-in_err-v : goal.returns-in_err-v
unfolding header_sum
returns-in_err-v c =
    passed_exits _ _ c.from_residual.ensures.1 (no_sum 8 crc8 6 _ _ (inside_in c.args.s.now c.args.at (cc)) c.requires _ (bits_read 8 _ _ refl c.in_err-v.ensures))

pub returns-then-v-sum : goal.returns-then-v-sum
unfolding header_sum
returns-then-v-sum c =
    sym (sum_differs 8 crc8 6 _ _ (inside_in c.args.s.now c.args.at (cc)) c.requires (bits_read 8 _ _ refl c.in_ok-v.ensures) c.crc8-sum.ensures c.if-v-sum.true)

pub returns : goal.returns
unfolding header_sum
returns c = sym (sum_fits 8 crc8 6 _ _ (inside_in c.args.s.now c.args.at (cc)) c.requires (bits_read 8 _ _ refl c.in_ok-v.ensures) c.crc8-sum.ensures c.if-v-sum.false)
