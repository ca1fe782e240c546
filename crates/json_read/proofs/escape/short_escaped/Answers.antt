use Rattle.std.proofs.Common.{sym}
use Rattle.json_read.proofs.Strings.{short_read, short_bad}
use Rattle.json_read.proofs.escape.short_escaped.Goals as goal

pub returns-in-Some : goal.returns-in-Some
returns-in-Some c = λ place. short_read c.args.bytes.now c.args.at place c.in-Some.c c.from.result c.requires.within c.requires.short (sym c.in-Some.ensures) c.from.ensures

pub returns-in-None : goal.returns-in-None
returns-in-None c = λ place. short_bad c.args.bytes.now c.args.at place c.requires.within c.requires.short (sym c.in-None.ensures)
