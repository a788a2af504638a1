-- What this crate's answer means, and what its private functions answer.
pub mod Choices
pub mod Private
