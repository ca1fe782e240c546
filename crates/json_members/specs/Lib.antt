pub mod Slots
pub mod Covers
