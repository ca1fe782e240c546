pub mod Exec
pub mod Ready
pub mod Levels
pub mod Tasks
pub mod Giving
pub mod Keeping
pub mod Ended
pub mod Order
