-- THE DEFINITION of a FLAC frame, and of the frame that the writer writes: RFC 9639, and document 01 where the two
-- differ. Each reader asks for its fields in the order of the format.
pub mod CheckSums
pub mod Integers
pub mod Number
pub mod HeaderCodes
pub mod Header
pub mod Residual
pub mod Prediction
pub mod Subframe
pub mod Stereo
pub mod Stream
pub mod StreamHeader
pub mod Frame
pub mod Read
pub mod FrameByFrame
pub mod SubframeCoding
pub mod Write
