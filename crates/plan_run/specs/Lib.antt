pub mod Plans
pub mod Subgraphs
pub mod Fetches
pub mod Outcomes
pub mod Requests
pub mod Executions
pub mod Justified
