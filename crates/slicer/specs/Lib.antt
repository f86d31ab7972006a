pub mod Slices
pub mod Headers
