use Rattle.std.proofs.Common.{[]}
use Rattle.std.proofs.KnownBytes.{Appends-nil}
use Rattle.script_lines.specs.Script.{lines}
use Rattle.rehearsal.specs.Scene.{opening}
use Rattle.rehearsal.proofs.Playing.{front_of}
use Rattle.rehearsal.proofs.command.perform.Goals as goal

pub returns-in-Err-clause-ends : goal.returns-in-Err-clause-ends
returns-in-Err-clause-ends g c = ([], front_of 1 (opening c.args.limits) (lines c.args.script.now), Appends-nil _)
