pub mod Said
pub mod Calls
