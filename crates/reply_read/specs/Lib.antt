pub mod Kinds
pub mod Errors
pub mod Values
pub mod TagTexts
pub mod Replies
pub mod Pieces
