pub mod BadChips
pub mod Blocks
pub mod Cuts
