pub mod Running
pub mod Justifying
pub mod Firsts
pub mod Values
