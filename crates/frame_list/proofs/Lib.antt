-- The laws that the functions' proofs cite.
pub mod FillInvariant
pub mod ListedFrames
pub mod FirstFrame
pub mod CardTurns
pub mod MetadataBlocks
pub mod BlockTurns
pub mod StreamStarts
