-- Laws for the proofs of the header's functions, and for the caller of `write_header`.
pub mod WrittenNumber
pub mod WrittenHeader
pub mod Outcome
