pub mod Maps
pub mod Holding
pub mod Playing
pub mod Written
pub mod Determined
pub mod Onward
