-- One step of reading frame by frame.
pub mod Steps
