use Rattle.std.proofs.Common.{refl}
use Rattle.reply_read.specs.Values.{values_of}
use Rattle.reply_read.specs.Replies.{with_values}
use Rattle.reply_read.proofs.Giving.{gives_pieces, gives_fault}
use Rattle.reply_read.proofs.replies.with_values.Goals as goal

pub returns-in-Ok : goal.returns-in-Ok
returns-in-Ok c = gives_pieces (with_values c.args.tags.items c.args.errors.items (values_of c.args.sent.now c.args.found)) c.args.tags.items c.args.errors.items (values_of c.args.sent.now c.args.found) c.in-Ok.values.items refl c.in-Ok.ensures

pub returns-in-Err : goal.returns-in-Err
returns-in-Err c = gives_fault (with_values c.args.tags.items c.args.errors.items (values_of c.args.sent.now c.args.found)) c.args.tags.items c.args.errors.items (values_of c.args.sent.now c.args.found) c.in-Err.fault refl c.in-Err.ensures
