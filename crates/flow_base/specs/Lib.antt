pub mod Causes
pub mod Taking
pub mod InMemory
pub mod Logs
pub mod Places
pub mod Clocks
