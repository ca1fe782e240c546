pub mod Faults
pub mod OneFault
