pub mod Script
pub mod Commands
pub mod Replies
pub mod Laws
