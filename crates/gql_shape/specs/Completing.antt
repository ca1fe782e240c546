-- The value that completes a field (October 2021, section 6.4): what the data gives, in the form that the type has.
use Rattle.std.specs.Prelude.{◌≡◌, ℕ, suc, Bool, true, false, not, ◌&&◌, List, [], ◌∷◌, ◌++◌, Option, Some, None, if◌then◌else◌, codes}
use Rattle.std.specs.Str.{bytes_eq}
use Rattle.json_value.specs.declared.tree.Json.{Json, out-Json}
use Rattle.json_value.specs.declared.tree.Json.TheVariants as j
use Rattle.json_value.specs.declared.tree.Json.TheOpen.{Json-F}
use Rattle.json_value.specs.Members.{named}
use Rattle.json_paths.specs.declared.path.Spot.{Spot}
use Rattle.json_paths.specs.declared.path.Spot.TheVariants as spot
use Rattle.gql_terms.specs.declared.documents.TypeRef.{TypeRef}
use Rattle.gql_terms.specs.declared.documents.Selection.{Selection}
use Rattle.gql_types.specs.declared.definition.Kind.{Kind}
use Rattle.gql_types.specs.declared.definition.Kind.TheVariants as kinds
use Rattle.gql_types.specs.declared.definition.TypeDef.{TypeDef}
use Rattle.gql_types.specs.Schemas as schemas
use Rattle.gql_leaves.specs.Bares.{Bare, named as named_type, list_of, bare, is_required}
use Rattle.gql_leaves.specs.Leaves.{fits}
use Rattle.gql_shape.specs.declared.shaped.ShapeCode.{ShapeCode}
use Rattle.gql_shape.specs.declared.shaped.ShapeCode.TheVariants as code
use Rattle.gql_shape.specs.declared.shaped.ShapeError.{ShapeError}
use Rattle.gql_shape.specs.Terms.{Scope, Field, Group}
use Rattle.gql_shape.specs.Collecting.{Selects}

-- ---- what a type makes of a value

abbrev pub is_object_kind : Option Kind → Bool
is_object_kind (Some kinds.Object) = true
is_object_kind _ = false

abbrev pub is_object : List TypeDef → List ℕ → Bool
is_object schema name = is_object_kind (schemas.kind schema name)

abbrev pub is_composite_kind : Option Kind → Bool
is_composite_kind (Some kinds.Object) = true
is_composite_kind (Some kinds.Interface) = true
is_composite_kind (Some kinds.Union) = true
is_composite_kind _ = false

-- an object type, an interface or a union
abbrev pub is_composite : List TypeDef → List ℕ → Bool
is_composite schema name = is_composite_kind (schemas.kind schema name)

pub data CompletionRule : Type 0 where
  -- null stays
  null : CompletionRule
  -- null where the type has a non-null mark
  missing : CompletionRule
  -- a value of another kind
  wrong : CompletionRule
  -- the value of a scalar or an enum
  leaf : Json → CompletionRule
  -- each element by this type
  elements : TypeRef → List Json → CompletionRule
  -- the members by the fields of this object type
  fields : List ℕ → List (List ℕ × Json) → CompletionRule

-- the type that an object says it has; one that says none has the type that is asked for
abbrev pub said_type : List ℕ → Option Json → Option (List ℕ)
said_type name None = Some name
said_type name (Some v) = elim (out-Json v) [ Json-F.Str said ↦ Some said | _ ↦ None ]

-- an object type that is the one asked for, implements it or is its member
abbrev pub is_one_of : List TypeDef → List ℕ → List ℕ → Bool
is_one_of schema name said = is_object schema said && schemas.implements_or_is schema said name

abbrev pub object_type_said : List TypeDef → List ℕ → Option (List ℕ) → Option (List ℕ)
object_type_said schema name None = None
object_type_said schema name (Some said) = if is_one_of schema name said then Some said else None

-- the object type whose fields the members are
abbrev pub object_type : List TypeDef → List ℕ → List (List ℕ × Json) → Option (List ℕ)
object_type schema name members = object_type_said schema name (said_type name (named (codes "__typename") members))

abbrev pub fields_rule : List (List ℕ × Json) → Option (List ℕ) → CompletionRule
fields_rule members None = wrong
fields_rule members (Some object) = fields object members

abbrev pub composite_rule : List TypeDef → List ℕ → Json-F Json → CompletionRule
composite_rule schema name (Json-F.Object members) = fields_rule members (object_type schema name members)
composite_rule schema name _ = wrong

abbrev pub leaf_rule : List TypeDef → List ℕ → Json → CompletionRule
leaf_rule schema name v = if fits schema name v then leaf v else wrong

abbrev pub value_rule : List TypeDef → Bare → Json → Json-F Json → CompletionRule
value_rule schema (list_of t) v (Json-F.List items) = elements t items
value_rule schema (list_of t) v _ = wrong
value_rule schema (named_type name) v layer =
    if is_composite schema name then composite_rule schema name layer else leaf_rule schema name v

abbrev pub null_rule : Bool → CompletionRule
null_rule true = missing
null_rule false = null

abbrev pub rule_of : List TypeDef → TypeRef → Json → Json-F Json → CompletionRule
rule_of schema of v Json-F.Null = null_rule (is_required of)
rule_of schema of v layer = value_rule schema (bare of) v layer

abbrev pub rule : List TypeDef → TypeRef → Json → CompletionRule
rule schema of v = rule_of schema of v (out-Json v)

-- ---- nulls that climb

abbrev pub is_null_at : Json-F Json → Bool
is_null_at Json-F.Null = true
is_null_at _ = false

-- a null in the place of a type with a non-null mark leaves no value: the object or list around it becomes null
abbrev pub kept : Bool → Json → Option Json
kept required v = if required && is_null_at (out-Json v) then None else Some v

abbrev pub list_or_null : Option (List Json) → Json
list_or_null None = j.Null
list_or_null (Some items) = j.List items

abbrev pub object_or_null : Option (List (List ℕ × Json)) → Json
object_or_null None = j.Null
object_or_null (Some members) = j.Object members

-- the parts with one before them, if there are all
abbrev pub after : {X : Type 0} → X → Option (List X) → Option (List X)
after x None = None
after x (Some xs) = Some (x ∷ xs)

-- ---- fields

-- the selections of all fields of a group
abbrev pub joined : List Field → List Selection
joined [] = []
joined (f ∷ fs) = f.selections ++ joined fs

abbrev pub selections_of : Group → List Selection
selections_of g = g.first.selections ++ joined g.more

-- what a field of an object is: the name of its type, of no field of the type, or of one type
pub data FieldRule : Type 0 where
  type_name : FieldRule
  unknown : FieldRule
  typed : TypeRef → FieldRule

abbrev pub typed_or_unknown : Option TypeRef → FieldRule
typed_or_unknown None = unknown
typed_or_unknown (Some t) = typed t

abbrev pub field_rule : List TypeDef → List ℕ → List ℕ → FieldRule
field_rule schema object name =
    if bytes_eq name (codes "__typename") then type_name
    else if is_object schema object then typed_or_unknown (schemas.field schema object name)
    else unknown

abbrev pub or_null : Option Json → Json
or_null None = j.Null
or_null (Some v) = v

abbrev pub error : ShapeCode → List Spot → ShapeError
error c spots = record { code = c; place = record { spots = spots } }

-- ---- completion

-- Completes: the value, read with these selections at this place, leaves that value (or none, where a null climbs) and
-- these errors. Elements and CompletesFields go in order, and end with the first part that leaves no value.
mutual
  pub data Completes (s : Scope) : TypeRef → List Selection → Json → List Spot → Option Json → List ShapeError → Type 0 where
    by_rule : {of : TypeRef} {xs : List Selection} {v : Json} {p : List Spot} {w : Json} {es : List ShapeError} →
        CompletesByRule s (rule s.schema of v) xs p w es → Completes s of xs v p (kept (is_required of) w) es

  pub data CompletesByRule (s : Scope) : CompletionRule → List Selection → List Spot → Json → List ShapeError → Type 0 where
    null_stays : {xs : List Selection} {p : List Spot} → CompletesByRule s null xs p j.Null []
    null_is_missing : {xs : List Selection} {p : List Spot} → CompletesByRule s missing xs p j.Null (error code.NullInNonNull p ∷ [])
    is_wrong : {xs : List Selection} {p : List Spot} → CompletesByRule s wrong xs p j.Null (error code.WrongKind p ∷ [])
    leaf_stays : {xs : List Selection} {p : List Spot} {v : Json} → CompletesByRule s (leaf v) xs p v []
    by_element : {xs : List Selection} {p : List Spot} {t : TypeRef} {items : List Json} {o : Option (List Json)} {es : List ShapeError} →
        Elements s t xs p 0 items o es → CompletesByRule s (elements t items) xs p (list_or_null o) es
    by_field : {xs : List Selection} {p : List Spot} {object : List ℕ} {members : List (List ℕ × Json)} {groups : List Group}
        {o : Option (List (List ℕ × Json))} {es : List ShapeError} →
        Selects s object xs groups → CompletesFields s object members p groups o es → CompletesByRule s (fields object members) xs p (object_or_null o) es

  -- the elements from this index on
  pub data Elements (s : Scope) : TypeRef → List Selection → List Spot → ℕ → List Json → Option (List Json) → List ShapeError → Type 0 where
    no_more : {t : TypeRef} {xs : List Selection} {p : List Spot} {i : ℕ} → Elements s t xs p i [] (Some []) []
    climbs : {t : TypeRef} {xs : List Selection} {p : List Spot} {i : ℕ} {v : Json} {vs : List Json} {es : List ShapeError} →
        Completes s t xs v (p ++ (spot.Index i ∷ [])) None es → Elements s t xs p i (v ∷ vs) None es
    another : {t : TypeRef} {xs : List Selection} {p : List Spot} {i : ℕ} {v : Json} {vs : List Json} {w : Json} {o : Option (List Json)} {es fs : List ShapeError} →
        Completes s t xs v (p ++ (spot.Index i ∷ [])) (Some w) es → Elements s t xs p (suc i) vs o fs → Elements s t xs p i (v ∷ vs) (after w o) (es ++ fs)

  -- the fields of an object of this type with these members, group by group
  pub data CompletesFields (s : Scope) : List ℕ → List (List ℕ × Json) → List Spot → List Group → Option (List (List ℕ × Json)) → List ShapeError → Type 0 where
    all_done : {object : List ℕ} {members : List (List ℕ × Json)} {p : List Spot} → CompletesFields s object members p [] (Some []) []
    its_type : {object : List ℕ} {members : List (List ℕ × Json)} {p : List Spot} {g : Group} {gs : List Group} {o : Option (List (List ℕ × Json))} {es : List ShapeError} →
        field_rule s.schema object g.first.name ≡ type_name → CompletesFields s object members p gs o es →
        CompletesFields s object members p (g ∷ gs) (after (g.first.key, j.Str object) o) es
    left_out : {object : List ℕ} {members : List (List ℕ × Json)} {p : List Spot} {g : Group} {gs : List Group} {o : Option (List (List ℕ × Json))} {es : List ShapeError} →
        field_rule s.schema object g.first.name ≡ unknown → CompletesFields s object members p gs o es → CompletesFields s object members p (g ∷ gs) o es
    field_climbs : {object : List ℕ} {members : List (List ℕ × Json)} {p : List Spot} {g : Group} {gs : List Group} {t : TypeRef} {es : List ShapeError} →
        field_rule s.schema object g.first.name ≡ typed t →
        Completes s t (selections_of g) (or_null (named g.first.key members)) (p ++ (spot.Name g.first.key ∷ [])) None es →
        CompletesFields s object members p (g ∷ gs) None es
    field_stays : {object : List ℕ} {members : List (List ℕ × Json)} {p : List Spot} {g : Group} {gs : List Group} {t : TypeRef} {w : Json}
        {o : Option (List (List ℕ × Json))} {es fs : List ShapeError} →
        field_rule s.schema object g.first.name ≡ typed t →
        Completes s t (selections_of g) (or_null (named g.first.key members)) (p ++ (spot.Name g.first.key ∷ [])) (Some w) es →
        CompletesFields s object members p gs o fs → CompletesFields s object members p (g ∷ gs) (after (g.first.key, w) o) (es ++ fs)

-- what is left of a value that follows the rule
pub record IsLeft (s : Scope) (r : CompletionRule) (required : Bool) (xs : List Selection) (p : List Spot) (o : Option Json) (es : List ShapeError) : Type 0 where
  pub value : Json
  pub follows : CompletesByRule s r xs p value es
  pub left : o ≡ kept required value

abbrev pub list_type : Bare → Option TypeRef
list_type (list_of t) = Some t
list_type (named_type name) = None

abbrev pub composite_type : List TypeDef → Bare → Option (List ℕ)
composite_type schema (list_of t) = None
composite_type schema (named_type name) = if is_composite schema name then Some name else None

abbrev pub is_leaf : List TypeDef → List ℕ → Json → Bool
is_leaf schema name v = not (is_composite schema name) && fits schema name v

-- what the type makes of a value that is not null, and neither a list for a list type nor an object for a composite one
abbrev pub plain_rule : List TypeDef → Bare → Json → CompletionRule
plain_rule schema (list_of t) v = wrong
plain_rule schema (named_type name) v = if is_leaf schema name v then leaf v else wrong

-- the place of the first member with the name, or the number of members
abbrev pub place_of : List ℕ → List (List ℕ × Json) → ℕ
place_of name [] = 0
place_of name (m ∷ ms) = if bytes_eq m.0 name then 0 else suc (place_of name ms)
