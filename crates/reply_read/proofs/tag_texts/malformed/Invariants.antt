use Rattle.std.proofs.Common.{◌≡◌, replicate}
use Rattle.cache_terms.specs.declared.tags.Tags.TheVariants as tags
use Rattle.reply_read.proofs.tag_texts.malformed.Given as goal

abbrev pub invariant-loop : goal.invariant-loop
invariant-loop l = l.tags.items ≡ replicate l.counter tags.Malformed
