-- The padding and the stored sum, as the definition reads them. Assumes nothing.
use Prim.Native.Nat.{ℕ, ◌-◌, ◌%◌}
use native.Mathlib.Omega.{arith}
use mathlib.Core.List.{List}
use mathlib.Core.Path.{◌≡◌, refl, sym, ◌∙◌}
use borrow.Author.Tests.{le-leb}
use lib.Seq.{length-take-le}
use Rattle.reading.specs.declared.Place.{Place}
use Rattle.reading.specs.Readers.{bits}
use Rattle.reading.specs.Places.{At, run_at}
use Rattle.reading.proofs.ByteRuns.{inside_in, run_at-out}
use Rattle.input.specs.Answers.{low64}
use Rattle.rfc9639.specs.CheckSums.{crc16}
use Rattle.header.proofs.ReaderSteps.{bits_read, passed_exits}
use Rattle.header.proofs.StoredSum.{no_sum, sum_differs, sum_fits}
use Rattle.frame.proofs.FrameFooter.{no_padding, padded_in, padded_byte, sum-next}
use Rattle.frame.proofs.footer.read_footer.Goals as goal

pub returns-then-not-is_inside : goal.returns-then-not-is_inside
returns-then-not-is_inside c = sym (run_at-out _ _ _ (cc))

pub overflow_sub-at : goal.overflow_sub-at
overflow_sub-at c = omega (arith, (inside_in c.args.s.now c.args.at (cc)).bit)

-- the padding is short enough for one number
padding_read : (s : List ℕ) (at : Place) {x : At ℕ} → x ≡ low64 (run_at (bits ((8 - at.bit) % 8)) s at) → run_at (bits ((8 - at.bit) % 8)) s at ≡ x
padding_read s at e = bits_read _ s at (le-leb _ _ (omega arith)) e

pub returns-in_err-p : goal.returns-in_err-p
returns-in_err-p c = passed_exits _ _ c.from_residual.ensures.1 (no_padding _ _ (inside_in _ _ (cc)) _ (padding_read _ _ c.in_err-p.ensures))

pub slice_bounds-crc16-end : goal.slice_bounds-crc16-end
slice_bounds-crc16-end c =
    let i = inside_in c.args.s.now c.args.at (cc) in
    sym (length-take-le _ _ (omega (arith, (padded_in _ _ i (padding_read _ _ c.in_ok-p.ensures)).end)))

pub returns-in_err-v : goal.returns-in_err-v
returns-in_err-v c =
    let i = inside_in c.args.s.now c.args.at (cc) in
    let e = padding_read _ _ c.in_ok-p.ensures in
    passed_exits _ _ c.from_residual-in_err-v.ensures.1
    (sum-next _ _ i e ∙ no_sum 16 crc16 10 _ _ (padded_in _ _ i e) (padded_byte _ _ i e) _ (bits_read 16 _ _ refl c.in_err-v.ensures))

pub returns-then-v-sum : goal.returns-then-v-sum
returns-then-v-sum c =
    let i = inside_in c.args.s.now c.args.at (cc) in
    let e = padding_read _ _ c.in_ok-p.ensures in
    sym (sum-next _ _ i e ∙ sum_differs 16 crc16 10 _ _ (padded_in _ _ i e) (padded_byte _ _ i e) (bits_read 16 _ _ refl c.in_ok-v.ensures) c.crc16-sum.ensures c.if-v-sum.true)

pub returns : goal.returns
returns c =
    let i = inside_in c.args.s.now c.args.at (cc) in
    let e = padding_read _ _ c.in_ok-p.ensures in
    sym (sum-next _ _ i e ∙ sum_fits 16 crc16 10 _ _ (padded_in _ _ i e) (padded_byte _ _ i e) (bits_read 16 _ _ refl c.in_ok-v.ensures) c.crc16-sum.ensures c.if-v-sum.false)
