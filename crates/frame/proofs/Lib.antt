-- Laws for the proofs of the frame reader, its one outcome, and laws for its callers.
pub mod AnswerCases
pub mod StreamBlocks
pub mod FrameBody
pub mod FrameFooter
pub mod StereoPairs
pub mod Outcome
pub mod Callers
