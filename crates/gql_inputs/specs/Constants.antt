-- A constant of a document in JSON, part by part.
use Rattle.std.specs.Prelude.{ℕ, Bool, false, ◌||◌, List, [], ◌∷◌, ◌++◌, if◌then◌else◌}
use Rattle.std.specs.Str.{bytes_eq}
use Rattle.json_value.specs.declared.tree.Json.{Json}
use Rattle.json_value.specs.declared.tree.Json.TheVariants as j
use Rattle.gql_terms.specs.declared.documents.Value.{Value}
use Rattle.gql_terms.specs.declared.documents.Value.TheOpen.{Value-F}
use Rattle.gql_terms.specs.declared.documents.Value.TheFolds.{fold-Value}
use Rattle.gql_inputs.specs.Strings.{unescaped}

abbrev pub has : List (List ℕ × Json) → List ℕ → Bool
has [] name = false
has (m ∷ ms) name = bytes_eq m.0 name || has ms name

abbrev pub with_first : List (List ℕ × Json) → List ℕ × Json → List (List ℕ × Json)
with_first ms m = if has ms m.0 then ms else ms ++ (m ∷ [])

abbrev pub firsts_after : List (List ℕ × Json) → List (List ℕ × Json) → List (List ℕ × Json)
firsts_after ms [] = ms
firsts_after ms (n ∷ ns) = firsts_after (with_first ms n) ns

-- the first member of each name, in order
abbrev pub firsts : List (List ℕ × Json) → List (List ℕ × Json)
firsts ms = firsts_after [] ms

abbrev pub constant_step : Value-F Json → Json
constant_step (Value-F.Variable name) = j.Null
constant_step (Value-F.Block text) = j.Null
constant_step Value-F.Null = j.Null
constant_step (Value-F.Bool b) = j.Bool b
constant_step (Value-F.Number text) = j.Number text
constant_step (Value-F.Str source) = j.Str (unescaped source)
constant_step (Value-F.EnumName name) = j.Str name
constant_step (Value-F.List values) = j.List values
constant_step (Value-F.Object members) = j.Object (firsts members)

abbrev pub constant : Value → Json
constant = fold-Value Json constant_step

abbrev pub constant_member : List ℕ × Value → List ℕ × Json
constant_member m = (m.0, constant m.1)
