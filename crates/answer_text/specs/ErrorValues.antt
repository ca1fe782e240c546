-- An error as it stands in an answer (GraphQL October 2021, section 7.1.2): its message, its path where it has one, and
-- as extensions its code and then what it says more.
use Rattle.std.specs.Prelude.{ℕ, List, [], ◌∷◌, ◌++◌, Option, Some, None, map, codes}
use Rattle.std.specs.Fmt.{decimal}
use Rattle.json_value.specs.declared.tree.Json.{Json}
use Rattle.json_value.specs.declared.tree.Json.TheVariants as json
use Rattle.json_paths.specs.declared.path.Spot.{Spot}
use Rattle.json_paths.specs.declared.path.Spot.TheVariants as spot
use Rattle.json_paths.specs.declared.path.Place.{Place}

abbrev pub NamedValues : Type 0
NamedValues = List (List ℕ × Json)

abbrev pub string : List ℕ → Json
string text = json.Str text

abbrev pub number : ℕ → Json
number n = json.Number (decimal n)

abbrev pub list : List Json → Json
list items = json.List items

abbrev pub object : NamedValues → Json
object members = json.Object members

abbrev pub spot_value : Spot → Json
spot_value (spot.Name name) = string name
spot_value (spot.Index index) = number index

-- a response path: the names and indices that lead from the data to the place
abbrev pub path_value : Place → Json
path_value place = list (map spot_value place.spots)

abbrev pub path_members : Option Place → NamedValues
path_members None = []
path_members (Some place) = (codes "path", path_value place) ∷ []

abbrev pub extensions : List ℕ → NamedValues → NamedValues
extensions code more = (codes "extensions", object ((codes "code", string code) ∷ more)) ∷ []

abbrev pub error_value : List ℕ → Option Place → List ℕ → NamedValues → Json
error_value message place code more = object (((codes "message", string message) ∷ path_members place) ++ extensions code more)
