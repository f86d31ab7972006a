pub mod Lines
pub mod Wrongs
