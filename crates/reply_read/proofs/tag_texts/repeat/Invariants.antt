use Rattle.std.proofs.Common.{◌≡◌, replicate}
use Rattle.reply_read.proofs.tag_texts.repeat.Given as goal

abbrev pub invariant-loop : goal.invariant-loop
invariant-loop l = l.tags.items ≡ replicate l.counter l.one
