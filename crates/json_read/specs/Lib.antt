pub use Rattle.json_machine.specs.OneValue
pub use Rattle.json_faults.specs.Faults
pub use Rattle.json_faults.specs.OneFault
pub mod Reading
