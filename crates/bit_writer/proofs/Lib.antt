-- Laws of the pen, for its functions and for their callers; one outcome for each function.
pub mod InkedBits
pub mod ConsecutiveWrites
pub mod RowLoops
pub mod BitLoops
pub mod Outcome
