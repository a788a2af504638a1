-- Sizes of sums and products, for callers, and that each function has one outcome.
pub mod ProductSums
pub mod ExactSums
pub mod Outcome
