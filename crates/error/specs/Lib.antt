-- The refusals' numbers, what each asks of the caller, and what a reader's answer means in the definition.
pub mod Numbers
pub mod Answers
pub mod Needs
