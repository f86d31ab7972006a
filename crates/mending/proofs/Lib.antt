pub mod Mendings
