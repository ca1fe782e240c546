pub mod Keys
pub mod TagRules
pub mod Tags
pub mod Offers
