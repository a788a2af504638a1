-- What the writer and its private functions answer, in the definition's words.
pub mod Private
pub mod Outcomes
