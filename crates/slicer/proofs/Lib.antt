pub mod Groups
pub mod Sums
pub mod Payloads
pub mod Openings
