-- Laws for the proofs of this crate's functions, one outcome for each public one, and where the MD5 of a header is stored.
pub mod ReadSteps
pub mod SkippedBlocks
pub mod Outcome
pub mod StoredMd5
