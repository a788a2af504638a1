-- Laws for the proofs of the header's functions, and for the caller of `read_header`.
pub mod ReaderSteps
pub mod StoredSum
pub mod ByteAlignment
pub mod CodedNumber
pub mod HeaderParts
pub mod Outcome
