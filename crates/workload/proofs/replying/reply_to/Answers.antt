use Rattle.std.proofs.Common.{◌∙◌}
use Rattle.workload.proofs.Replied.{no_json, read_as}
use Rattle.workload.proofs.replying.reply_to.Goals as goal

pub returns-in-Ok : goal.returns-in-Ok
returns-in-Ok c =
    read_as c.args.call.now c.as_bytes.result.now c.as_str-in-Ok.result.now c.in-Ok.value c.reply_by.result (c.as_bytes.ensures.value ∙ c.as_str.ensures) c.as_str-in-Ok.ensures c.in-Ok.ensures.found c.reply_by.ensures

pub returns-in-Err : goal.returns-in-Err
returns-in-Err c = no_json c.args.call.now c.as_bytes.result.now c.in-Err.fault c.no_reply.result (c.as_bytes.ensures.value ∙ c.as_str.ensures) c.in-Err.ensures.only c.no_reply.ensures
