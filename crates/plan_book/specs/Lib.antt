pub mod Book
pub mod Asking
pub mod Forms
pub mod Fetches
pub mod Nodes
pub mod Drafts
pub mod PlanFile
