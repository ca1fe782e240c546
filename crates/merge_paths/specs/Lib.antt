pub mod Merge
pub mod Levels
pub mod Taking
pub mod ByName
pub mod Placing
