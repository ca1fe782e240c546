use Rattle.std.proofs.Common.{[], rules}
use Rattle.std.proofs.KnownBytes.{Appends-nil}
use Rattle.rehearsal.specs.Outside.{output}
use Rattle.case_run.specs.Runs.{opening}
use Rattle.case_run.proofs.Going.{front_of}
use Rattle.case_run.proofs.Opened.{opened_ends}
use Rattle.case_run.proofs.command.perform.Goals as goal

pub returns-in_default-clause-ends : goal.returns-in_default-clause-ends
returns-in_default-clause-ends g c = ([], front_of c.args.case.site (opening c.args.case.site.config.limits c.args.case.replies) c.args.case.requests, Appends-nil _)

pub returns-then-is_err-clause-ends : goal.returns-then-is_err-clause-ends
returns-then-is_err-clause-ends g c = ([], front_of c.args.case.site (opening c.args.case.site.config.limits c.args.case.replies) c.args.case.requests, Appends-nil _)

pub returns-clause-ends : goal.returns-clause-ends
returns-clause-ends g c =
    let before = output (g.K.Sink.written c.args.sink.now) (g.K.Sink.faults c.args.sink.now) in
    let after = output (g.K.Sink.written c.play.new.sink) (g.K.Sink.faults c.play.new.sink) in
    opened_ends c.args.case.site c.args.case.site.config.limits c.args.case.replies before after c.play.result c.args.case.requests c.as_slice.result.now c.in-Ok.cache c.push.new.self.items (search rules) c.in-Ok.ensures (search rules) c.play.ensures.ends
