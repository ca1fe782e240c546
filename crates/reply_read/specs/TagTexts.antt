-- The tags of a reply, piece by piece.
use Rattle.std.specs.Prelude.{ℕ, ◌==◌, ◌&&◌, Bool, true, false, if◌then◌else◌, List, [], ◌++◌, map, length, replicate, codes, Option, Some, None}
use Rattle.std.specs.List.{list_all}
use Rattle.cache_terms.specs.declared.tags.Tags.{Tags}
use Rattle.cache_terms.specs.declared.tags.Tags.TheVariants as tags
use Rattle.cache_terms.specs.Tags.{tags_of}
use Rattle.json_value.specs.declared.tree.Json.{Json, out-Json}
use Rattle.json_value.specs.declared.tree.Json.TheOpen.{Json-F}
use Rattle.json_value.specs.Members.{member}
use Rattle.reply_read.specs.declared.replies.Sent.{Sent}
use Rattle.reply_read.specs.declared.replies.Sent.TheVariants as sent
use Rattle.reply_read.specs.Kinds.{is_object, is_string, is_strings, string_or, strings_of}
use Rattle.reply_read.specs.Values.{count_of}

abbrev pub common_in : Json-F Json → Option (List (List ℕ))
common_in (Json-F.List xs) = if list_all is_string xs then Some (map (string_or []) xs) else None
common_in _ = None

-- the texts of `cacheTags`, which are every piece's; None is another form
abbrev pub common_texts : Option Json → Option (List (List ℕ))
common_texts None = Some []
common_texts (Some v) = common_in (out-Json v)

abbrev pub is_formed : Tags → Bool
is_formed tags.Malformed = false
is_formed (tags.Known list) = true
is_formed (tags.Many count) = true

abbrev pub malformed : ℕ → List Tags
malformed n = replicate n tags.Malformed

-- a tag that is empty or over 128 bytes makes those of all pieces Malformed
abbrev pub all_or_malformed : ℕ → List Tags → List Tags
all_or_malformed n each = if list_all is_formed each then each else malformed n

-- the tags of a piece for which these came beside the common ones
abbrev pub piece_tags : List (List ℕ) → Json → Tags
piece_tags common own = tags_of (common ++ strings_of own)

abbrev pub own_in : ℕ → List (List ℕ) → Json-F Json → List Tags
own_in n common (Json-F.List xs) = if (length xs == n) && list_all is_strings xs then all_or_malformed n (map (piece_tags common) xs) else malformed n
own_in n common Json-F.Null = malformed n
own_in n common (Json-F.Bool b) = malformed n
own_in n common (Json-F.Number a) = malformed n
own_in n common (Json-F.Str t) = malformed n
own_in n common (Json-F.Object ms) = malformed n

-- with `entityCacheTags`: one list of strings for each entity sent; a root has none
abbrev pub tags_with : Sent → List (List ℕ) → Option Json → List Tags
tags_with s common None = all_or_malformed (count_of s) (replicate (count_of s) (tags_of common))
tags_with sent.Root common (Some own) = malformed 1
tags_with (sent.Entities n) common (Some own) = own_in n common (out-Json own)

abbrev pub tags_beside : Sent → Option (List (List ℕ)) → Option Json → List Tags
tags_beside s None own = malformed (count_of s)
tags_beside s (Some common) own = tags_with s common own

-- by the member `extensions`, an object that may be missing
abbrev pub reply_tags : Sent → Option Json → List Tags
reply_tags s None = tags_with s [] None
reply_tags s (Some e) = if is_object e then tags_beside s (common_texts (member e (codes "cacheTags"))) (member e (codes "entityCacheTags")) else malformed (count_of s)
