pub mod Tokens
pub mod Sources
pub mod Writes
pub mod Equations
pub mod Written
pub mod Texts
pub mod Reading
pub mod Appending
