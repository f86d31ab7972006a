pub mod Differences
pub mod Polynomials
pub mod Division
pub mod Checks
