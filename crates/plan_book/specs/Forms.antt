-- The forms of the members of a plan file, apart from documents and nodes.
use Rattle.std.specs.Prelude.{ℕ, Bool, true, false, not, ◌&&◌, List, [], ◌∷◌, Option, Some, None, map, codes, if◌then◌else◌}
use Rattle.std.specs.List.{list_any, list_all}
use Rattle.std.specs.Str.{bytes_eq}
use Rattle.json_value.specs.declared.tree.Json.{Json, out-Json}
use Rattle.json_value.specs.declared.tree.Json.TheOpen.{Json-F}
use Rattle.json_value.specs.Members.{member}
use Rattle.json_value.specs.Recursion.{by_parts}
use Rattle.json_paths.specs.declared.path.Path.{Path}
use Rattle.json_paths.specs.declared.path.Step.{Step}
use Rattle.json_paths.specs.declared.path.Step.TheVariants as step
use Rattle.json_paths.specs.declared.needs.Need.{Need, out-Need}
use Rattle.json_paths.specs.declared.needs.Need.TheOpen.{Need-F}
use Rattle.json_paths.specs.declared.needs.Need.TheViews.{roll-Need}
use Rattle.json_paths.specs.declared.needs.Requires.{Requires}
use Rattle.plan_tree.specs.Lawful.{differ, are_names, is_some_of}
use Rattle.plan_book.specs.declared.kinds.Kind.{Kind}
use Rattle.plan_book.specs.declared.kinds.Kind.TheVariants as kinds

-- ---- parts of JSON

abbrev pub text_at : Json-F Json → Option (List ℕ)
text_at (Json-F.Str t) = Some t
text_at _ = None

-- the characters of a string
abbrev pub text_of : Json → Option (List ℕ)
text_of v = text_at (out-Json v)

abbrev pub text_in : Option Json → Option (List ℕ)
text_in None = None
text_in (Some v) = text_of v

abbrev pub elements_at : Json-F Json → Option (List Json)
elements_at (Json-F.List items) = Some items
elements_at _ = None

-- the elements of a list
abbrev pub elements : Json → Option (List Json)
elements v = elements_at (out-Json v)

abbrev pub elements_in : Option Json → Option (List Json)
elements_in None = None
elements_in (Some v) = elements v

abbrev pub is_object_at : Json-F Json → Bool
is_object_at (Json-F.Object ms) = true
is_object_at _ = false

abbrev pub is_object : Json → Bool
is_object v = is_object_at (out-Json v)

abbrev pub if_fits : {X : Type 0} → (X → Bool) → Option X → Option X
if_fits test None = None
if_fits test (Some x) = if test x then Some x else None

-- an object
abbrev pub object_in : Option Json → Option Json
object_in o = if_fits is_object o

abbrev pub and_also : {X : Type 0} → Option X → Option (List X) → Option (List X)
and_also (Some x) (Some xs) = Some (x ∷ xs)
and_also _ _ = None

-- all of them, where none is missing
abbrev pub all_of : {X : Type 0} → List (Option X) → Option (List X)
all_of [] = Some []
all_of (o ∷ os) = and_also o (all_of os)

-- what each element is
abbrev pub each : {X : Type 0} → (Json → Option X) → Option (List Json) → Option (List X)
each form None = None
each form (Some items) = all_of (map form items)

abbrev pub are_children : List Json → Bool
are_children items = is_some_of items && list_all is_object items

-- the nodes in a Sequence or Parallel: a list of objects that is not empty
abbrev pub children_in : Option Json → Option (List Json)
children_in o = if_fits are_children (elements_in o)

-- ---- the kind of a node

abbrev pub kind_named : List ℕ → Option Kind
kind_named name =
    if bytes_eq name (codes "Fetch") then Some kinds.Fetch
    else if bytes_eq name (codes "Flatten") then Some kinds.Flatten
    else if bytes_eq name (codes "Sequence") then Some kinds.Sequence
    else if bytes_eq name (codes "Parallel") then Some kinds.Parallel
    else None

abbrev pub kind_with : Option (List ℕ) → Option Kind
kind_with None = None
kind_with (Some name) = kind_named name

abbrev pub kind_of : Json → Option Kind
kind_of v = kind_with (text_in (member v (codes "kind")))

-- ---- variables and paths

abbrev pub are_variables : List (List ℕ) → Bool
are_variables names = differ names && not (list_any (bytes_eq (codes "representations")) names)

-- none where the member is absent; else distinct strings, none of which is `representations`
abbrev pub variables_in : Option Json → Option (List (List ℕ))
variables_in None = Some []
variables_in (Some v) = if_fits are_variables (each text_of (elements v))

abbrev pub step_named : Option (List ℕ) → Option Step
step_named None = None
step_named (Some name) = Some (if bytes_eq name (codes "@") then step.Each else step.Name name)

-- the name of a member, or `@` for each element
abbrev pub step_of : Json → Option Step
step_of v = step_named (text_of v)

abbrev pub as_path : Option (List Step) → Option Path
as_path None = None
as_path (Some steps) = Some (record { steps = steps })

-- a list of steps that is not empty
abbrev pub path_in : Option Json → Option Path
path_in o = as_path (if_fits is_some_of (each step_of (elements_in o)))

-- ---- what an entity fetch requires

abbrev pub name_in : Need-F Need → List ℕ
name_in need = need.name

abbrev pub need_name : Need → List ℕ
need_name need = name_in (out-Need need)

-- some fields, with distinct names and no `__typename`
abbrev pub are_needs : List Need → Bool
are_needs needs = is_some_of needs && are_names (map need_name needs)

-- what a value is as a field that is required, and as a list of such fields
pub record Needing : Type 0 where
  pub need : Option Need
  pub needs : Option (List Need)

abbrev pub need_made : Json × Needing → Option Need
need_made p = p.1.need

abbrev pub part : List ℕ → List (List ℕ × (Json × Needing)) → Option (Json × Needing)
part name [] = None
part name (m ∷ ms) = if bytes_eq m.0 name then Some m.1 else part name ms

-- none where the member is absent
abbrev pub fields_made : Option (Json × Needing) → Option (List Need)
fields_made None = Some []
fields_made (Some p) = p.1.needs

abbrev pub need_with : Option (List ℕ) → Option (List Need) → Option Need
need_with (Some name) (Some fields) = Some (roll-Need (record { name = name; fields = fields }))
need_with _ _ = None

-- a field is `{"name":N}` or `{"name":N,"fields":[..]}`
abbrev pub needing_step : Json → Json-F (Json × Needing) → Needing
needing_step v (Json-F.Object ms) = record { need = need_with (text_in (member v (codes "name"))) (fields_made (part (codes "fields") ms)); needs = None }
needing_step v (Json-F.List items) = record { need = None; needs = if_fits are_needs (all_of (map need_made items)) }
needing_step v _ = record { need = None; needs = None }

unfoldable pub needing : Json → Needing
needing = by_parts needing_step

-- a field
abbrev pub need_of : Json → Option Need
need_of v = (needing v).need

-- a list of fields, which is there
abbrev pub needs_in : Option Json → Option (List Need)
needs_in None = None
needs_in (Some v) = (needing v).needs

-- a list of fields, none where it is absent
abbrev pub fields_in : Option Json → Option (List Need)
fields_in None = Some []
fields_in (Some v) = (needing v).needs

abbrev pub requires_with : Option (List ℕ) → Option (List Need) → Option Requires
requires_with (Some name) (Some fields) = Some (record { type_name = name; fields = fields })
requires_with _ _ = None

-- `{"type":T,"fields":[..]}`
abbrev pub requires_of : Json → Option Requires
requires_of v = requires_with (text_in (member v (codes "type"))) (needs_in (member v (codes "fields")))

abbrev pub some_of : Option Requires → Option (Option Requires)
some_of None = None
some_of (Some needs) = Some (Some needs)

-- no needs where the member is absent
abbrev pub requires_in : Option Json → Option (Option Requires)
requires_in None = Some None
requires_in (Some v) = some_of (requires_of v)
