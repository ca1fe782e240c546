pub mod Octets
pub mod Grammar
pub mod Rules
pub mod Reading
pub mod Seen
pub mod Counting
