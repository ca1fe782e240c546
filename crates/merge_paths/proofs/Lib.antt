pub mod Equations
pub mod Lists
pub mod Progress
pub mod Names
pub mod Taken
