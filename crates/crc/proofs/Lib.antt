-- Laws of the check sums.
pub mod XorLaws
pub mod CrcLinearity
pub mod ByteTable
pub mod BytesApart
pub mod SummedBytes
pub mod Outcome
