-- A channel's range, what is filled so far, and that each function has one outcome.
pub mod BlockAccess
pub mod FilledSamples
pub mod Outcome
