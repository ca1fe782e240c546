-- What a caller may rely on in the pieces of a reply.
use Rattle.std.specs.Prelude.{◌≡◌, ℕ, true, List, length, All}
use Rattle.std.specs.List.{list_all}
use Rattle.cache_terms.specs.declared.tags.Tags.{Tags}
use Rattle.json_value.specs.declared.tree.Json.{Json}
use Rattle.json_value.specs.Grammar.{strict}
use Rattle.json_value.specs.Laws.{HasText}
use Rattle.reply_read.specs.declared.replies.Sent.{Sent}
use Rattle.reply_read.specs.Kinds.{is_piece}
use Rattle.reply_read.specs.Values.{count_of}

-- one for each that was asked for, each an object or null for which some text stands, and each with its tags
pub record ArePieces (sent : Sent) (values : List Json) (tags : List Tags) : Type 0 where
  pub values_count : length values ≡ count_of sent
  pub tags_count : length tags ≡ count_of sent
  pub kinds : list_all is_piece values ≡ true
  pub texts : All (HasText strict) values
