use Rattle.json_machine.proofs.Whole.{reads_found, reads_only}
use Rattle.json_faults.proofs.Bytes.{are_bytes}
use Rattle.json_faults.proofs.Explained.{reads_fault}
use Rattle.json_read.proofs.reader.read.Goals as goal

pub returns-clause-found : goal.returns-clause-found
returns-clause-found c = reads_found _ _ c.whole.ensures

pub returns-clause-only : goal.returns-clause-only
returns-clause-only c = reads_only _ _ c.whole.ensures

pub returns-clause-fault : goal.returns-clause-fault
returns-clause-fault c = reads_fault _ _ (are_bytes c.args.bytes.now c.type_inv.bytes) c.whole.ensures
