use Rattle.std.proofs.Common.{sym, ◌∙◌}
use Rattle.case_file.proofs.Made.{no_plans_there}
use Rattle.case_file.proofs.read.plans_of.Goals as goal

pub returns : goal.returns
returns c = no_plans_there c.args.value.now c.in-Err.fault (sym c.is_plan_memory.ensures ∙ c.if-is_plan_memory.false) c.in-Err.ensures.fault
