pub mod Joined
pub mod Runs
pub mod Equations
pub mod Wide
pub mod Respelled
pub mod RoundTrip
pub mod Letters
