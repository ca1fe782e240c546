use Rattle.std.proofs.Common.{sym, ◌∙◌}
use Rattle.case_file.proofs.Made.{no_schema_there}
use Rattle.case_file.proofs.read.schema_of.Goals as goal

pub returns : goal.returns
returns c = no_schema_there c.args.text.now c.in-Err.fault (sym c.is_sdl_memory.ensures ∙ c.if-is_sdl_memory.false) c.in-Err.ensures.fault
