pub mod Texts
pub mod Runs
pub mod Asking
pub mod Playing
