-- `write_planned` meets its contract: header, subframes and end, one after the other. Assumes nothing.
use borrow.Author.Rules.{rules}
use Rattle.frame_writer.proofs.WholeFrame.{unpadded-good, frame_is}
use Rattle.frame_writer.proofs.write_planned.Goals as goal

-- the pen after the subframes
pub write_footer-requires : goal.write_footer-requires
write_footer-requires c = (unpadded-good _ _ _ c.requires.2 c.write_header-writer.ensures.1 c.write_subframes.ensures.written).few

pub returns : goal.returns
returns c =
    let whole = frame_is _ _ _ c.requires.2 c.write_header-writer.ensures.1 c.write_subframes.ensures.written c.write_footer.ensures.1 in
    search (rules, whole)
