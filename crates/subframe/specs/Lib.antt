-- What the decoders of a channel answer, in the terms of the definition.
pub mod Answers
pub mod Private
