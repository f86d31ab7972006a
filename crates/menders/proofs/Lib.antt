pub mod RowSteps
pub mod Elimination
pub mod Narrowing
pub mod Findings
pub mod Repairing
pub mod Agreement
pub mod Nearness
