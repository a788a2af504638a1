-- Reading frame by frame: one step, and the list that the steps give.
pub mod NextPlace
pub mod Walks
pub mod Outcome
