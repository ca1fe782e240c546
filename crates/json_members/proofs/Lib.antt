pub mod Digested
pub mod Names
