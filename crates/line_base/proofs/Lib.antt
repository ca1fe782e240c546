pub mod Gaining
pub mod Scripts
pub mod TestLanes
