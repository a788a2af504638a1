-- The settings, test by test as in the definition. Assumes nothing.
use borrow.Author.Tests.{le-leb, lt-leb}
use mathlib.Core.Path.{◌≡◌, sym, ◌∙◌}
use mathlib.Core.Bool.{◌&&◌}
use lib.Dec.{leb, ltb}
use Rattle.rfc9639.specs.HeaderCodes.{largest_block_size}
use Rattle.rfc9639.specs.Write.{writable}
use Rattle.frame_limits.specs.Private.{in_range}
use Rattle.frame_limits.proofs.SettingTests.{joined_true, joined_false}
use Rattle.frame_limits.proofs.is_in_range.Goals as goal
use Rattle.frame_limits.proofs.is_in_range.Goals.{Joined-set-gt0, then-set-le10, else-set-le10, then-is_writable, else-is_writable, then-set-le1, else-set-le1, then-set-gt0, else-set-gt0}

-- the first five tests, as the definition joins them
five-tests : (c : Joined-set-gt0) → c.if-set-gt0.value ≡ (leb c.args.set.channels 10 && writable c.args.set.bits && leb c.args.set.blocking 1 && ltb 0 c.args.set.size && leb c.args.set.size largest_block_size)
five-tests c =
    let s = c.args.set in
    let two : c.if-set-le10.value ≡ (leb s.channels 10 && writable s.bits) = elim c.if-set-le10.branch [
      | then-set-le10 w ↦ joined_true (le-leb s.channels 10 w.if-set-le10.true) (w.value-is ∙ w.is_writable.ensures)
      | else-set-le10 w ↦ let no = lt-leb s.channels 10 w.if-set-le10.false in joined_false _ no w.value-is
    ] in
    let three : c.if-is_writable.value ≡ (leb s.channels 10 && writable s.bits && leb s.blocking 1) = elim c.if-is_writable.branch [
      | then-is_writable w ↦ joined_true (sym two ∙ w.if-is_writable.true) w.value-is
      | else-is_writable w ↦ joined_false _ (sym two ∙ w.if-is_writable.false) (w.value-is ∙ two)
    ] in
    let four : c.if-set-le1.value ≡ (leb s.channels 10 && writable s.bits && leb s.blocking 1 && ltb 0 s.size) = elim c.if-set-le1.branch [
      | then-set-le1 w ↦ joined_true (sym three ∙ w.if-set-le1.true) w.value-is
      | else-set-le1 w ↦ joined_false _ (sym three ∙ w.if-set-le1.false) (w.value-is ∙ three)
    ] in
    elim c.if-set-gt0.branch [
      | then-set-gt0 w ↦ joined_true (sym four ∙ w.if-set-gt0.true) w.value-is
      | else-set-gt0 w ↦ joined_false _ (sym four ∙ w.if-set-gt0.false) (w.value-is ∙ four)
    ]

pub returns-then-set-le-LARGEST_BLOCK_SIZE : goal.returns-then-set-le-LARGEST_BLOCK_SIZE
unfolding in_range
returns-then-set-le-LARGEST_BLOCK_SIZE c = joined_true (sym (five-tests c.before.before.before) ∙ c.if-set-le-LARGEST_BLOCK_SIZE.true) (rw c.number_limit.ensures)

pub returns-else-set-le-LARGEST_BLOCK_SIZE : goal.returns-else-set-le-LARGEST_BLOCK_SIZE
unfolding in_range
returns-else-set-le-LARGEST_BLOCK_SIZE c = let five = five-tests c.before in joined_false _ (sym five ∙ c.if-set-le-LARGEST_BLOCK_SIZE.false) five
