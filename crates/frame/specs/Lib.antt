-- What the frame reader and its parts answer, in the words of the definition.
pub mod Reads
