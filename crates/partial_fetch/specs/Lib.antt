pub mod Accepting
pub mod Answering
pub mod Causes
pub mod Headline
