-- What the functions of this crate answer, in the words of the definition.
pub mod Answers
