use Rattle.std.proofs.Common.{inl, inr}
use Rattle.rehearsal.specs.Outside.{input, output, outside}
use Rattle.rehearsal.proofs.Written.{played, refused}
use Rattle.rehearsal.proofs.command.run.Goals as goal

pub returns-in-Err-TooLong-clause-rehearses : goal.returns-in-Err-TooLong-clause-rehearses
returns-in-Err-TooLong-clause-rehearses g c =
    refused c.args.limits
    (outside (input (g.S.Source.left c.args.source.now) (g.S.Source.faults c.args.source.now)) (output (g.K.Sink.written c.args.sink.now) (g.K.Sink.faults c.args.sink.now)))
    (outside (input (g.S.Source.left c.take_all.new.source) (g.S.Source.faults c.take_all.new.source)) (output (g.K.Sink.written c.refuse_script.new.sink) (g.K.Sink.faults c.refuse_script.new.sink)))
    c.refuse_script.result (inl (_, rw c.in-Err-TooLong.field-0-is at c.in-Err-TooLong.ensures.takes)) c.refuse_script.ensures.ends

pub returns-in-Err-clause-rehearses : goal.returns-in-Err-clause-rehearses
returns-in-Err-clause-rehearses g c =
    refused c.args.limits
    (outside (input (g.S.Source.left c.args.source.now) (g.S.Source.faults c.args.source.now)) (output (g.K.Sink.written c.args.sink.now) (g.K.Sink.faults c.args.sink.now)))
    (outside (input (g.S.Source.left c.take_all.new.source) (g.S.Source.faults c.take_all.new.source)) (output (g.K.Sink.written c.refuse_script-in-Err.new.sink) (g.K.Sink.faults c.refuse_script-in-Err.new.sink)))
    c.refuse_script-in-Err.result (inr (_, c.in-Ok.ensures.takes, rw c.as_slice.ensures at c.in-Err.ensures.cases.0)) c.refuse_script-in-Err.ensures.ends

pub returns-clause-rehearses : goal.returns-clause-rehearses
returns-clause-rehearses g c =
    played c.args.limits
    (outside (input (g.S.Source.left c.args.source.now) (g.S.Source.faults c.args.source.now)) (output (g.K.Sink.written c.args.sink.now) (g.K.Sink.faults c.args.sink.now)))
    (outside (input (g.S.Source.left c.take_all.new.source) (g.S.Source.faults c.take_all.new.source)) (output (g.K.Sink.written c.perform.new.sink) (g.K.Sink.faults c.perform.new.sink)))
    c.perform.result c.in-Ok.bytes c.in-Ok.ensures.takes (rw c.as_slice.ensures at c.in-Ok-from_utf8.ensures.cases.1)
    (rw (c.in-Ok-from_utf8.ensures.cases.0, c.as_slice.ensures) at c.perform.ensures.ends)
