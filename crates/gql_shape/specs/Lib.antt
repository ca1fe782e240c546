pub mod Terms
pub mod Collecting
pub mod Completing
pub mod Keys
pub mod Shaping
pub mod Whole
pub mod Kept
pub mod Indexed
