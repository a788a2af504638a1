-- Laws for the functions that read bits, and for their callers.
pub mod AppendedBits
pub mod MappedReplies
pub mod Outcome
pub mod Callers
pub mod ReadLoops
