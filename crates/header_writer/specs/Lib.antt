-- The result of writing a header.
pub mod HeaderResult
