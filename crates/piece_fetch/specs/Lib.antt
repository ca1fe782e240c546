pub mod Lasting
pub mod Offering
pub mod Coming
pub mod Fetching
pub mod Justified
pub mod Between
