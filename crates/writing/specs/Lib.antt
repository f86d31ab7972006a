pub mod Octets
pub mod Chips
pub mod Changes
