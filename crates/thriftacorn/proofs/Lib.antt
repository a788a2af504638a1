-- Each exported function has one outcome.
pub mod Outcome
