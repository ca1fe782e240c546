use Rattle.json_faults.proofs.Explained.{fault_unique}
use Rattle.json_faults.proofs.laws.fault_is_one.Goals as goal

pub returns : goal.returns
returns c = fault_unique
