pub mod Asks
pub mod Rows
pub mod Builds
pub mod Reads
pub mod Claims
pub mod Answers
