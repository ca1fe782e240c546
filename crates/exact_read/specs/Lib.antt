pub mod Digits
pub mod Exact
pub mod Parse
pub mod Steps
