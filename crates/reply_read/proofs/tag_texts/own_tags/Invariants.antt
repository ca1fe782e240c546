use Rattle.std.proofs.Common.{◌≡◌, take, map}
use Rattle.reply_read.specs.TagTexts.{piece_tags}
use Rattle.reply_read.proofs.tag_texts.own_tags.Given as goal

abbrev pub invariant-loop-own : goal.invariant-loop-own
invariant-loop-own l = l.tags.items ≡ map (piece_tags l.common) (take l.own-index l.lists)
