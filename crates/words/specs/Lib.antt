pub mod Coder
pub mod Changes
pub mod Refusals
pub mod GeneratorTable
