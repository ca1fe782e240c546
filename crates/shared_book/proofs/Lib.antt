pub mod HandleTurns
pub mod Own
pub mod Ending
pub mod WrittenBack
