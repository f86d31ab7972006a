pub mod Codewords
pub mod Field
pub mod Sums
pub mod Kernel
pub mod Decoder
