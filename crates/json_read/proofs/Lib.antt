pub use Rattle.json_machine.proofs.OneValue
pub mod Tokens
pub mod Strings
pub mod Values
pub mod Digits
