-- Laws for the proofs of the choice, and that it has one outcome.
pub mod EqualSamples
pub mod QuotientSums
pub mod ParameterChoice
pub mod CandidateBits
pub mod OrderChoice
pub mod Outcome
