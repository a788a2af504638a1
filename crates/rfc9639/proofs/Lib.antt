-- Laws of the definition: widths, machine integers, check sums, lengths, the writer's choice, the length bound, the
-- parts of a stream header. And what it computes: the examples that document 01 marks (P), published frames, the order
-- of the checks, stream headers.
pub mod CheckSums
pub mod Widths
pub mod Magnitudes
pub mod MachineIntegers
pub mod Lengths
pub mod Evaluation
pub mod MarkedCases
pub mod PublishedFrames
pub mod CheckOrder
pub mod GivenRecords
pub mod EscapedPartitions
pub mod AllowedSettings
pub mod Lists
pub mod FewestBits
pub mod Costs
pub mod LengthBound
pub mod FrameBits
pub mod StreamHeaderBits
pub mod StreamHeaderValues
pub mod StreamHeaders
