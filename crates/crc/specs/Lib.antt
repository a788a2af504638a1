-- What the tables hold.
pub mod Private
