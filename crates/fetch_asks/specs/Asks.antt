-- What a fetch of a plan asks for: the keys of its pieces, and the call for some of them.
use Rattle.std.specs.Prelude.{◌≡◌, ℕ, ◌-◌, Bool, true, false, List, [], ◌∷◌, ◌++◌, Option, Some, None, map, codes, length, take}
use Rattle.json_value.specs.declared.tree.Json.{Json}
use Rattle.json_value.specs.declared.tree.Json.TheVariants as json
use Rattle.json_value.specs.Members.{member}
use Rattle.json_print.specs.Print.{print}
use Rattle.json_paths.specs.declared.needs.Requires.{Requires}
use Rattle.cache_terms.specs.declared.keys.Key.{Key}
use Rattle.plan_tree.specs.declared.plan.Fetch.{Fetch}
use Rattle.plan_exec.specs.declared.tasks.Asked.{Asked}
use Rattle.plan_exec.specs.declared.tasks.Asked.TheVariants as kind
use Rattle.fetch_asks.specs.declared.ask.Ask.{Ask}
use Rattle.fetch_asks.specs.Asking.{joined}

-- ---- the variables that are sent

abbrev pub if_there : List ℕ → Option Json → List (List ℕ × Json) → List (List ℕ × Json)
if_there name None later = later
if_there name (Some value) later = (name, value) ∷ later

-- the members of these variables that have these names, in the order of the names; an absent one is left out
abbrev pub picked : List (List ℕ) → Json → List (List ℕ × Json)
picked [] variables = []
picked (name ∷ names) variables = if_there name (member variables name) (picked names variables)

abbrev pub with_representations : Asked → List (List ℕ × Json) → List Json → List (List ℕ × Json)
with_representations kind.Root members reps = members
with_representations (kind.Entities distinct used_by) members reps = members ++ ((codes "representations", json.List reps) ∷ [])

-- ---- the keys

-- the types on which operations start (GraphQL October 2021, section 3.3.1)
abbrev pub root_type : (mutation : Bool) → List ℕ
root_type true = codes "Mutation"
root_type false = codes "Query"

-- the type that is required of entities; a fetch without needs asks for none
abbrev pub needed_type : Option Requires → List ℕ
needed_type None = []
needed_type (Some needs) = needs.type_name

abbrev pub type_of : Fetch → Asked → List ℕ
type_of fetch kind.Root = root_type fetch.mutation
type_of fetch (kind.Entities distinct used_by) = needed_type fetch.needs

-- the operation's text, a line feed, and the variables that are sent with it
unfoldable pub sel_of : Fetch → Json → List ℕ
sel_of fetch variables = fetch.sel ++ (10 ∷ print (json.Object (picked fetch.variables variables)))

abbrev pub key_of : Fetch → Asked → Json → List ℕ → Key
key_of fetch asked variables rep = record { sub = fetch.sub; type_name = type_of fetch asked; rep = rep; sel = sel_of fetch variables }

-- the printed texts of these representations; the one piece of a root fetch has none, which is the empty text
abbrev pub rep_texts : Asked → List Json → List (List ℕ)
rep_texts kind.Root reps = [] ∷ []
rep_texts (kind.Entities distinct used_by) reps = map print reps

abbrev pub reps_of : Asked → List Json
reps_of kind.Root = []
reps_of (kind.Entities distinct used_by) = distinct

-- one for each piece, in order
abbrev pub keys_of : Fetch → Asked → Json → List Key
keys_of fetch asked variables = map (key_of fetch asked variables) (rep_texts asked (reps_of asked))

-- ---- the call

-- THE BODY of the call for the pieces of these representations
unfoldable pub call_value : Fetch → Asked → Json → (reps : List Json) → Json
call_value fetch asked variables reps =
    json.Object ((codes "query", json.Str fetch.sel) ∷ ((codes "variables", json.Object (with_representations asked (picked fetch.variables variables) reps)) ∷ []))

-- whatever pieces are asked for, the text between front and back makes the body's compact text
abbrev pub HasBodies : Ask → Fetch → Asked → Json → Type 0
HasBodies ask fetch asked variables = (reps : List Json) →
    ask.front ++ (joined (rep_texts asked reps) ++ ask.back) ≡ print (call_value fetch asked variables reps)

-- what stands behind the representations: the ends of their list, of the variables and of the body
abbrev pub back_of : Asked → List ℕ
back_of kind.Root = []
back_of (kind.Entities distinct used_by) = codes "]}}"

abbrev pub before : List ℕ → List ℕ → List ℕ
before end text = take (length text - length end) text

-- what stands before them in the body without representations
unfoldable pub front_of : Fetch → Asked → Json → List ℕ
front_of fetch asked variables = before (back_of asked) (print (call_value fetch asked variables []))

abbrev pub are_entities : Asked → Bool
are_entities kind.Root = false
are_entities (kind.Entities distinct used_by) = true

abbrev pub ask_of : (sub : ℕ) (uncached : Bool) → Fetch → Asked → Json → Ask
ask_of sub uncached fetch asked variables = record {
  sub = sub;
  name = fetch.sub;
  front = front_of fetch asked variables;
  back = back_of asked;
  entities = are_entities asked;
  mutation = fetch.mutation;
  uncached = uncached;
}
