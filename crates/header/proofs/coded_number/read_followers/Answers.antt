-- The bytes after the first, as the definition reads them. Assumes nothing.
use mathlib.Core.Path.{refl, sym}
use Rattle.reading.proofs.ByteRuns.{run_at-out}
use Rattle.header.proofs.ReaderSteps.{bits_read, exits_by}
use Rattle.header.proofs.CodedNumber.{begin, end, no_follower, follower_refused, step}
use Rattle.header.proofs.coded_number.read_followers.Goals as goal

pub returns-then-not-is_inside : goal.returns-then-not-is_inside
returns-then-not-is_inside c = sym (run_at-out _ _ _ (cc))

pub loop-init : goal.loop-init
loop-init c = begin _ _ _ _ c.requires.1 (cc)

pub returns-in_err-b : goal.returns-in_err-b
returns-in_err-b c = exits_by _ _ c.from_residual.ensures.1 (no_follower _ _ _ _ c.loop.invariant c.loop-test.true _ (bits_read 8 _ _ refl c.in_err-b.ensures))

pub returns-then-b-ne2 : goal.returns-then-b-ne2
returns-then-b-ne2 c = sym (follower_refused _ _ _ _ c.loop.invariant c.loop-test.true (bits_read 8 _ _ refl c.in_ok-b.ensures) c.if-b-ne2.true)

pub loop-preserved : goal.loop-preserved
loop-preserved c = step _ _ _ _ c.loop.invariant c.loop-test.true (bits_read 8 _ _ refl c.in_ok-b.ensures) c.if-b-ne2.false

pub returns : goal.returns
returns c = sym (end _ _ _ _ c.loop.invariant c.loop-test.false)
