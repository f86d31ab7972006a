pub mod Scans
pub mod CodewordTest
pub mod ChangeCounts
