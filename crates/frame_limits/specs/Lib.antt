-- How long a frame can be.
pub mod Longest
pub mod Private
