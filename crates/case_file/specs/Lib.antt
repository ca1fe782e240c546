pub mod Forms
pub mod Subgraphs
pub mod Requests
pub mod Replies
pub mod Parts
pub mod Cases
