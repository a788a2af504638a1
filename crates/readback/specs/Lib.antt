-- What a written frame says about its samples, and the settings under which it is read back.
pub mod FirstSample
pub mod StreamRate
pub mod Readable
