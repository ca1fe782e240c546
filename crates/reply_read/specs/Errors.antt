-- The errors of a reply.
use Rattle.std.specs.Prelude.{ℕ, List, [], map, codes, if◌then◌else◌, Option, Some, None}
use Rattle.std.specs.List.{list_all}
use Rattle.json_value.specs.declared.tree.Json.{Json, out-Json}
use Rattle.json_value.specs.declared.tree.Json.TheOpen.{Json-F}
use Rattle.json_value.specs.Members.{member}
use Rattle.reply_read.specs.Kinds.{is_object, string_or}

abbrev pub message_by : Option Json → List ℕ
message_by None = codes "subgraph error"
message_by (Some m) = string_or (codes "subgraph error") m

-- the text of an error is its message, where that is a string
abbrev pub message : Json → List ℕ
message error = message_by (member error (codes "message"))

abbrev pub error_texts_by : Json-F Json → Option (List (List ℕ))
error_texts_by Json-F.Null = Some []
error_texts_by (Json-F.List xs) = if list_all is_object xs then Some (map message xs) else None
error_texts_by _ = None

-- a list of objects, which may be missing or null; None is another form
abbrev pub error_texts : Option Json → Option (List (List ℕ))
error_texts None = Some []
error_texts (Some v) = error_texts_by (out-Json v)
