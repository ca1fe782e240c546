pub mod Sharing
pub mod Handles
