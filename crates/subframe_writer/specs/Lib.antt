-- What is written of a channel, and what the private functions write.
pub mod Ways
pub mod Private
