-- The text of an object's members, between its braces.
use Rattle.std.specs.Prelude.{ℕ, List, map}
use Rattle.std.specs.List.{join_with_byte}
use Rattle.json_value.specs.declared.tree.Json.{Json}
use Rattle.json_print.specs.Print.{member_text, print_member}

unfoldable pub members_text : List (List ℕ × Json) → List ℕ
members_text members = join_with_byte 44 (map member_text (map print_member members))
