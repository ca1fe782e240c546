pub mod Escapes
pub mod Print
pub mod ReadBack
