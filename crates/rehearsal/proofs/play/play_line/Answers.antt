use Rattle.std.proofs.Common.{inr, refl}
use Rattle.script_lines.specs.Replies.{reply_text}
use Rattle.rehearsal.specs.Outside.{output}
use Rattle.rehearsal.proofs.Playing.{replied}
use Rattle.rehearsal.proofs.play.play_line.Goals as goal

pub returns-in-Ok-Replied-clause-plays : goal.returns-in-Ok-Replied-clause-plays
returns-in-Ok-Replied-clause-plays g c =
    let answered = rw c.in-Ok-Replied.field-0-is at c.in-Ok-Replied.ensures in
    replied c.args.stage.now c.args.line.now (reply_text c.in-Ok-Replied.reply) c.args.number c.answer.new.self
    (output (g.K.Sink.written c.args.sink.now) (g.K.Sink.faults c.args.sink.now)) (output (g.K.Sink.written c.put_reply.new.sink) (g.K.Sink.faults c.put_reply.new.sink))
    c.put_reply.result (inr (answered.0, c.in-Ok-Replied.reply, answered.1, answered.2, refl)) c.put_reply.ensures.puts
