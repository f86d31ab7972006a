pub mod Lists
pub mod Numbers
pub mod Pieces
pub mod Octets
pub mod Chips
pub mod Changes
