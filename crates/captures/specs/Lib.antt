pub mod Lines
pub mod Windows
pub mod Seeds
