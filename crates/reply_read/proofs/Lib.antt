pub mod PieceTexts
pub mod Giving
