pub mod Histories
pub mod BuildSteps
pub mod Drives
pub mod ComesBack
