-- Laws for the writer's proofs, and that it has one outcome.
pub mod SampleFit
pub mod FrameEnd
pub mod SubframeChoices
pub mod SubframeBits
pub mod SubframeWrites
pub mod WholeFrame
pub mod WriteAnswers
pub mod Outcome
