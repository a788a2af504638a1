-- `frame_list::opening::read_opening` meets its contract: the start, and the blocks after it. Assumes nothing.
use Rattle.frame_list.proofs.StreamStarts.{start-some, header-all, header_over}
use Rattle.frame_list.proofs.opening.read_opening.Goals as goal

pub skip_blocks-requires : goal.skip_blocks-requires
skip_blocks-requires c =
    let h = rw c.in-Header.is at c.in_ok-card.ensures in
    (h.bare.sound, h.bare.no_base, start-some _ h.start)

pub returns-in_ok-card-in-Header : goal.returns-in_ok-card-in-Header
returns-in_ok-card-in-Header c =
    let h = rw c.in-Header.is at c.in_ok-card.ensures in
    rw c.totals_of.ensures (header-all _ _ _ h _ _ c.in_ok-card-in-Header.ensures)

pub returns-in_err-card-in-Header : goal.returns-in_err-card-in-Header
returns-in_err-card-in-Header c =
    let h = rw c.in-Header.is at c.in_ok-card.ensures in
    rw c.from_residual-in_err-card-in-Header.ensures (header_over _ _ _ h _ c.in_err-card-in-Header.ensures)
