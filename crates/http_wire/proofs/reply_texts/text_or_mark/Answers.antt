use Rattle.std.proofs.Common.{◌∙◌}
use Rattle.http_wire.proofs.ReplyHeads.{is_text, no_text}
use Rattle.http_wire.proofs.reply_texts.text_or_mark.Goals as goal

pub returns-in-Ok : goal.returns-in-Ok
returns-in-Ok c = c.in-Ok.ensures.cases.0 ∙ is_text c.args.value.now c.in-Ok.ensures.cases.1

pub returns-in-Err : goal.returns-in-Err
returns-in-Err c = no_text c.args.value.now c.in-Err.ensures.cases.0
