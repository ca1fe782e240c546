pub mod Draws
pub mod Site
pub mod Replying
pub mod Answered
pub mod Tallying
pub mod Steps
pub mod Running
pub mod Between
