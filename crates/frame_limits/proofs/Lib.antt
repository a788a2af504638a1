-- Laws of the settings' tests, of the most bits and of the longest length; one outcome for each function.
pub mod SettingTests
pub mod MostBits
pub mod LongestLength
pub mod Outcome
