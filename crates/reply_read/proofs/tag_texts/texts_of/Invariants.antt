use Rattle.std.proofs.Common.{◌≡◌, take, map, []}
use Rattle.reply_read.specs.Kinds.{string_or}
use Rattle.reply_read.proofs.tag_texts.texts_of.Given as goal

abbrev pub invariant-loop-value : goal.invariant-loop-value
invariant-loop-value l = l.texts.items ≡ map (string_or []) (take l.value-index l.values)
