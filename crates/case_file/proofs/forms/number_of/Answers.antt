use Rattle.case_file.proofs.Wholes.{number_is}
use Rattle.case_file.proofs.forms.number_of.Goals as goal

pub returns-in-Number : goal.returns-in-Number
returns-in-Number c = number_is c.whole.result c.args.value.now _ c.in-Number.is c.whole.ensures
