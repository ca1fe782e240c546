pub mod Strings
pub mod Constants
pub mod Noted
pub mod Coercing
pub mod Variables
