-- Readers of a bit format: what a reader is, and what it gets from an input. Nothing here is about FLAC.
pub mod Readers
pub mod Bytes
pub mod Places
pub mod NumbersAsBits
