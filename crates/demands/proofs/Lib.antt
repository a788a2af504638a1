-- What the definition of a frame, and of the stream header, guarantees by itself.
pub mod Headers
pub mod StreamRecords
pub mod FrameRuns
pub mod FrameSamples
pub mod Results
pub mod FrameByFrame
pub mod Demand3
pub mod BufferTable
pub mod ResultCases
pub mod StreamSettings
pub mod Document01
pub mod SameBits
pub mod StreamHeaders
