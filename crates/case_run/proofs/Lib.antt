pub mod Sent
pub mod Standing
pub mod Stills
pub mod Telling
pub mod Going
pub mod Written
mod Opened
