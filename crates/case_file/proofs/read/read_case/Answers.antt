use Rattle.std.proofs.Common.{◌≢◌, Err, sym, subst}
use Rattle.case_file.specs.declared.fault.CaseFault.{CaseFault}
use Rattle.case_file.specs.declared.fault.CaseFault.TheVariants as faults
use Rattle.case_file.specs.Cases.{IsCase}
use Rattle.case_file.proofs.Made.{unread_is, case_read, fault_read}
use Rattle.case_file.proofs.read.read_case.Goals as goal

pub returns-in-Err-clause-fault : goal.returns-in-Err-clause-fault
returns-in-Err-clause-fault c =
    subst (λ (f : CaseFault). f ≢ faults.Memory → IsCase c.args.bytes.now (Err f)) (sym c.unread.ensures) (unread_is c.args.bytes.now c.in-Err.fault c.in-Err.ensures.only)

pub returns-in-Ok-clause-case : goal.returns-in-Ok-clause-case
returns-in-Ok-clause-case c = case_read c.args.bytes.now c.in-Ok.value c.read_value.result c.in-Ok.ensures.found c.read_value.ensures.case

pub returns-in-Ok-clause-fault : goal.returns-in-Ok-clause-fault
returns-in-Ok-clause-fault c = fault_read c.args.bytes.now c.in-Ok.value c.read_value.result c.in-Ok.ensures.found c.read_value.ensures.case
