-- The pieces of a subframe, and that writing one has one outcome.
pub mod SubframePieces
pub mod Outcome
