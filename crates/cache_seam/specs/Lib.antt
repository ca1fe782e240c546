pub mod Objects
pub mod Seen
pub mod Turns
pub mod Lonely
pub mod Hand
pub mod Chains
pub mod Standing
pub mod Meddling
