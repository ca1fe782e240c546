use Rattle.rehearsal.specs.Outside.{input, output, outside}
use Rattle.case_run.proofs.Written.{refused_size, refused_case, asked}
use Rattle.case_run.proofs.command.run.Goals as goal

pub returns-in-Err-TooLong-clause-asks : goal.returns-in-Err-TooLong-clause-asks
returns-in-Err-TooLong-clause-asks g c =
    refused_size
    (outside (input (g.S.Source.left c.args.source.now) (g.S.Source.faults c.args.source.now)) (output (g.K.Sink.written c.args.sink.now) (g.K.Sink.faults c.args.sink.now)))
    (outside (input (g.S.Source.left c.take_all.new.source) (g.S.Source.faults c.take_all.new.source)) (output (g.K.Sink.written c.refuse.new.sink) (g.K.Sink.faults c.refuse.new.sink)))
    c.refuse.result _ (rw c.in-Err-TooLong.field-0-is at c.in-Err-TooLong.ensures.takes) c.refuse.ensures.ends

pub returns-in-Ok-read_case-clause-asks : goal.returns-in-Ok-read_case-clause-asks
returns-in-Ok-read_case-clause-asks g c =
    asked
    (outside (input (g.S.Source.left c.args.source.now) (g.S.Source.faults c.args.source.now)) (output (g.K.Sink.written c.args.sink.now) (g.K.Sink.faults c.args.sink.now)))
    (outside (input (g.S.Source.left c.take_all.new.source) (g.S.Source.faults c.take_all.new.source)) (output (g.K.Sink.written c.perform.new.sink) (g.K.Sink.faults c.perform.new.sink)))
    c.perform.result c.in-Ok.bytes c.in-Ok-read_case.case c.in-Ok.ensures.takes (rw c.as_slice.ensures at c.in-Ok-read_case.ensures.case) c.perform.ensures.ends

pub returns-in-Some-clause-asks : goal.returns-in-Some-clause-asks
returns-in-Some-clause-asks g c =
    refused_case
    (outside (input (g.S.Source.left c.args.source.now) (g.S.Source.faults c.args.source.now)) (output (g.K.Sink.written c.args.sink.now) (g.K.Sink.faults c.args.sink.now)))
    (outside (input (g.S.Source.left c.take_all.new.source) (g.S.Source.faults c.take_all.new.source)) (output (g.K.Sink.written c.refuse-in-Some.new.sink) (g.K.Sink.faults c.refuse-in-Some.new.sink)))
    c.refuse-in-Some.result c.in-Ok.bytes c.in-Err.fault c.in-Some.ensures.refused c.in-Ok.ensures.takes (rw c.as_slice.ensures at (c.in-Err.ensures.fault c.in-Some.ensures.refused))
    (rw c.in-Some.ensures.text at c.refuse-in-Some.ensures.ends)
