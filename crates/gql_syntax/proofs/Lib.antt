pub mod Judgements
pub mod OneFault
