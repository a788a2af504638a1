-- What the answers of this crate mean.
pub mod Answers
