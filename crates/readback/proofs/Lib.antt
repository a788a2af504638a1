-- What is written is read back; and examples of written frames.
pub mod SpelledValues
pub mod Number
pub mod Header
pub mod StreamBlock
pub mod SamplesAndResiduals
pub mod Prediction
pub mod Subframe
pub mod Stereo
pub mod ChannelPairs
pub mod Lanes
pub mod Frame
pub mod ReadBack
pub mod WrittenCases
