pub mod Each
pub mod Wholes
pub mod Made
pub mod OneCase
