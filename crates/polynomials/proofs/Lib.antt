pub mod Rows
pub mod Divisions
pub mod Remainders
pub mod Streams
