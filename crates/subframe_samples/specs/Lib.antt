-- What a source means, and what the private functions of this crate answer.
pub mod Sources
pub mod Private
