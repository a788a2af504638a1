-- The settings that a stream gives, by its first header or without one. Assumes nothing.
use borrow.Author.Rules.{rules}
use Rattle.walk.proofs.NextPlace.{SizeTaken, first_size-settings}
use Rattle.walk.proofs.stream_settings.Goals as goal

pub returns : goal.returns
returns c =
    let f : SizeTaken c.read_header.result c.map.result = search rules in
    first_size-settings _ _ c.read_header.ensures _ f
