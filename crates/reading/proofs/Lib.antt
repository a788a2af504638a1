-- Laws that every reader obeys, whatever the format. The crates above cite them.
pub mod TestChains
pub mod NumbersAsBits
pub mod BitPrefixes
pub mod Bits
pub mod Words
pub mod ByteRuns
pub mod ReaderSteps
pub mod BitsTaken
pub mod BytePrefixes
pub mod Postconditions
pub mod Outcome
pub mod Shifted
