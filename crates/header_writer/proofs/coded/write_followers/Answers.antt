-- The loop inks the bytes after the first, the highest bits first; its invariant is Following. Assumes nothing.
use borrow.Author.Rules.{rules}
use Rattle.header_writer.proofs.WrittenNumber.{begin, step, end}
use Rattle.header_writer.proofs.coded.write_followers.Goals as goal

pub loop-left-init : goal.loop-left-init
loop-left-init c = begin _ _ (search rules)

pub loop-left-preserved : goal.loop-left-preserved
loop-left-preserved c = step _ _ c.loop-left.invariant c.loop-left-test.true c.write_bits.ensures

pub returns : goal.returns
returns c = end _ _ c.loop-left.invariant c.loop-left-test.false
