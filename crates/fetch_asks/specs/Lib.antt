pub mod Asking
pub mod Asks
pub mod Texts
