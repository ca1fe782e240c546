pub mod NameWords
pub mod Bounds
pub mod Turns
