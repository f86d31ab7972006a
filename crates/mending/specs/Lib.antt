pub mod Menders
pub mod Mending
pub mod Layers
