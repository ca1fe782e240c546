-- Which fields a selection set selects of an object of a type (October 2021, section 6.3.2).
use Rattle.std.specs.Prelude.{ℕ, suc, Bool, true, false, not, ◌||◌, List, [], ◌∷◌, ◌++◌, Option, Some, None, if◌then◌else◌, codes}
use Rattle.std.specs.Str.{bytes_eq}
use Rattle.json_value.specs.declared.tree.Json.{Json, out-Json}
use Rattle.json_value.specs.declared.tree.Json.TheOpen.{Json-F}
use Rattle.json_value.specs.Members.{member}
use Rattle.gql_terms.specs.declared.documents.Value.{Value, out-Value}
use Rattle.gql_terms.specs.declared.documents.Value.TheOpen.{Value-F}
use Rattle.gql_terms.specs.declared.documents.Directive.{Directive}
use Rattle.gql_terms.specs.declared.documents.Selection.{Selection, out-Selection}
use Rattle.gql_terms.specs.declared.documents.Selection.TheOpen.{Selection-F}
use Rattle.gql_terms.specs.declared.documents.Fragment.{Fragment}
use Rattle.gql_types.specs.Schemas.{is_among, implements_or_is}
use Rattle.gql_shape.specs.Terms.{Scope, Field, Group, Collection}

-- ---- conditions

abbrev pub is_true : Option Json → Bool
is_true None = false
is_true (Some v) = elim (out-Json v) [ Json-F.Bool b ↦ b | _ ↦ false ]

-- an argument holds exactly where it is `true` or a variable whose value is `true`
abbrev pub holds : Json → Value-F Value → Bool
holds variables (Value-F.Bool b) = b
holds variables (Value-F.Variable name) = is_true (member variables name)
holds variables _ = false

-- the first argument `if` counts; where there is none the condition does not hold
abbrev pub condition : Json → List (List ℕ × Value) → Bool
condition variables [] = false
condition variables (a ∷ more) = if bytes_eq a.0 (codes "if") then holds variables (out-Value a.1) else condition variables more

abbrev pub leaves_out : Json → Directive → Bool
leaves_out variables d =
    if bytes_eq d.name (codes "skip") then condition variables d.arguments
    else if bytes_eq d.name (codes "include") then not (condition variables d.arguments)
    else false

-- `@skip` with a condition that holds, or `@include` with one that does not
abbrev pub is_left_out : Json → List Directive → Bool
is_left_out variables [] = false
is_left_out variables (d ∷ ds) = leaves_out variables d || is_left_out variables ds

-- ---- one selection

-- what a selection comes to: nothing, a field, or the selections of an inline fragment or of a fragment that is spread
pub data Standing : Type 0 where
  left_out : Standing
  field : Field → Standing
  inline : List Selection → Standing
  spread : List ℕ → List Selection → Standing

-- the alias, or else the name
abbrev pub key_of : Option (List ℕ) → List ℕ → List ℕ
key_of None name = name
key_of (Some alias) name = alias

abbrev pub fragment_named : List ℕ → List Fragment → Option Fragment
fragment_named name [] = None
fragment_named name (f ∷ fs) = if bytes_eq f.name name then Some f else fragment_named name fs

-- a fragment applies to a type that is its condition, implements it or is its member
abbrev pub applies : Scope → List ℕ → Option (List ℕ) → Bool
applies s type_name None = true
applies s type_name (Some on) = implements_or_is s.schema type_name on

abbrev pub spread_standing : Scope → List ℕ → List ℕ → Option Fragment → Standing
spread_standing s type_name name None = left_out
spread_standing s type_name name (Some f) =
    if applies s type_name (Some f.on) then spread name f.selections else left_out

-- by the type, and the spreads that were taken already
abbrev pub standing_of : Scope → List ℕ → List (List ℕ) → Selection-F Selection → Standing
standing_of s type_name seen (Selection-F.Field alias name arguments directives selections) =
    if is_left_out s.variables directives then left_out
    else field (record { key = key_of alias name; name = name; selections = selections })
standing_of s type_name seen (Selection-F.Spread name directives) =
    if is_left_out s.variables directives then left_out
    else if is_among seen name then left_out
    else spread_standing s type_name name (fragment_named name s.fragments)
standing_of s type_name seen (Selection-F.Inline on directives selections) =
    if is_left_out s.variables directives then left_out
    else if applies s type_name on then inline selections
    else left_out

abbrev pub standing : Scope → List ℕ → List (List ℕ) → Selection → Standing
standing s type_name seen x = standing_of s type_name seen (out-Selection x)

-- ---- all selections

abbrev pub with_more : Field → Group → Group
with_more f g = record { first = g.first; more = g.more ++ (f ∷ []) }

-- a field goes into the group of its key, or opens a new one at the end
abbrev pub add : Field → List Group → List Group
add f [] = record { first = f; more = [] } ∷ []
add f (g ∷ gs) =
    if bytes_eq g.first.key f.key then with_more f g ∷ gs
    else g ∷ add f gs

-- the place of the group with this key, or the number of groups
abbrev pub place_of : List ℕ → List Group → ℕ
place_of key [] = 0
place_of key (g ∷ gs) = if bytes_eq g.first.key key then 0 else suc (place_of key gs)

abbrev pub with_field : Field → Collection → Collection
with_field f c = record { seen = c.seen; groups = add f c.groups }

abbrev pub with_spread : List ℕ → Collection → Collection
with_spread name c = record { seen = c.seen ++ (name ∷ []); groups = c.groups }

-- From the collection so far, these selections lead to that collection: each in turn comes to what it stands for.
mutual
  pub data Collects (s : Scope) (type_name : List ℕ) : List Selection → Collection → Collection → Type 0 where
    none : {c : Collection} → Collects s type_name [] c c
    next : {x : Selection} {xs : List Selection} {c d e : Collection} →
        CollectsOne s type_name (standing s type_name c.seen x) c d → Collects s type_name xs d e → Collects s type_name (x ∷ xs) c e

  pub data CollectsOne (s : Scope) (type_name : List ℕ) : Standing → Collection → Collection → Type 0 where
    nothing : {c : Collection} → CollectsOne s type_name left_out c c
    takes_field : {f : Field} {c : Collection} → CollectsOne s type_name (field f) c (with_field f c)
    within : {xs : List Selection} {c d : Collection} → Collects s type_name xs c d → CollectsOne s type_name (inline xs) c d
    spreads : {name : List ℕ} {xs : List Selection} {c d : Collection} →
        Collects s type_name xs (with_spread name c) d → CollectsOne s type_name (spread name xs) c d

-- the fields that the selections select, in their groups
abbrev pub Selects : Scope → List ℕ → List Selection → List Group → Type 0
Selects s type_name xs groups =
    (seen : List (List ℕ)) × Collects s type_name xs (record { seen = []; groups = [] }) (record { seen = seen; groups = groups })
