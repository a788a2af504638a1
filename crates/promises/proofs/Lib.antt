-- The demands, proved for the code: for any outcomes that meet the contracts of `read_frame`, `write_frame` and
-- `read_stream_header`.
pub mod Outcomes
pub mod Demand3
pub mod StreamRecords
pub mod StreamHeader
pub mod ReadBack
