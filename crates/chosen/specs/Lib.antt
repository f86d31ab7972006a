pub mod Leaves
pub mod Piles
pub mod Names
pub mod Laws
