-- Laws for the proofs of this crate, and that `decode` has one outcome.
pub mod SliceParts
pub mod FilledSlices
pub mod SampleReaders
pub mod RiceWords
pub mod Partitions
pub mod ResidualShapes
pub mod PredictionSums
pub mod FixedSums
pub mod PredictionInPlace
pub mod HeaderFields
pub mod HeaderBounds
pub mod DecodedSubframes
pub mod Outcome
