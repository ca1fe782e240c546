pub use Rattle.cache_terms.specs.Keys
pub mod Targets
pub mod Stamps
pub mod Telling
pub mod Positions
pub mod Holders
pub mod Under
pub mod Laws
