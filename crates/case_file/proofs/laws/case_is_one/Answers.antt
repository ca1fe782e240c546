use Rattle.case_file.proofs.OneCase.{case_once}
use Rattle.case_file.proofs.laws.case_is_one.Goals as goal

pub returns : goal.returns
returns c = case_once
