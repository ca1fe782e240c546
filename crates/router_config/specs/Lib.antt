pub mod Inputs
pub mod Rules
pub mod Faults
pub mod Lawful
