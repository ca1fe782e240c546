pub mod Grammar
pub mod Strings
pub mod Numbers
pub mod Members
pub mod Wholes
pub mod Recursion
pub mod Heights
pub mod Laws
