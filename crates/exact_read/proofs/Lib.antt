pub mod Exact
pub mod Relax
pub mod Decide
pub mod Machines
pub mod Digits
