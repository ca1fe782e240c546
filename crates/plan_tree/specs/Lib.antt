pub mod Numbers
pub mod Lawful
