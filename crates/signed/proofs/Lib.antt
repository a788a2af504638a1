-- Laws for callers: sign extension and the low bits at each width, and numbers by their sign.
pub mod SignExtension
pub mod SignCases
pub mod Outcome
