pub mod Tallies
pub mod Runs
pub mod Law
pub mod Orders
