-- What a pen writes.
pub mod PenWrites
