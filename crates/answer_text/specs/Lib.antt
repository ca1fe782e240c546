pub mod ErrorValues
pub mod FetchErrors
pub mod ShapeErrors
pub mod Refusals
pub mod Bodies
pub mod Lasting
