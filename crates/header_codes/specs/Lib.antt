-- The meaning of an answer, in the words of the definition.
pub mod Answers
