-- One outcome, different numbers for different refusals, and refusals in the definition's words.
pub mod Outcome
pub mod Refusals
