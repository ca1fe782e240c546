pub mod Foretold
pub mod Lines
pub mod Told
pub mod Lanes
