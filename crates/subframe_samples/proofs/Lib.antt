-- What each lane stores, residuals and predictions, and that each public function has one outcome.
pub mod StoredSamples
pub mod ResidualsByIndex
pub mod Predictions
pub mod Outcome
