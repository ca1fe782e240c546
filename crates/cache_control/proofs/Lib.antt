mod Spans
mod Complete
mod Sound
pub mod Laws
mod Steps
pub mod Digits
