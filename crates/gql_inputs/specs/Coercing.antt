-- The value of a variable, made from the value given for it (October 2021, sections 6.1.2 and 3.4 to 3.12).
use Rattle.std.specs.Prelude.{◌≡◌, ℕ, suc, Bool, true, false, ◌||◌, List, [], ◌∷◌, ◌++◌, Option, Some, None, Result, IfOk, IfErr, if◌then◌else◌}
use Rattle.std.specs.Str.{bytes_eq}
use Rattle.json_value.specs.declared.tree.Json.{Json, out-Json}
use Rattle.json_value.specs.declared.tree.Json.TheVariants as j
use Rattle.json_value.specs.declared.tree.Json.TheOpen.{Json-F}
use Rattle.json_value.specs.Members.{named}
use Rattle.json_paths.specs.declared.path.Spot.{Spot}
use Rattle.json_paths.specs.declared.path.Spot.TheVariants as spot
use Rattle.gql_terms.specs.declared.documents.TypeRef.{TypeRef}
use Rattle.gql_terms.specs.declared.documents.Value.{Value}
use Rattle.gql_types.specs.declared.definition.TypeDef.{TypeDef}
use Rattle.gql_types.specs.declared.definition.InputField.{InputField}
use Rattle.gql_types.specs.Schemas.{inputs}
use Rattle.gql_leaves.specs.Bares.{Bare, named as named_type, list_of, bare, is_required}
use Rattle.gql_leaves.specs.Leaves.{fits}
use Rattle.gql_inputs.specs.declared.fault.Refusal.{Refusal}
use Rattle.gql_inputs.specs.declared.fault.Refusal.TheVariants as refusals
use Rattle.gql_inputs.specs.Constants.{constant}

-- ---- what a type makes of a value

pub data InputRule : Type 0 where
  -- null stays
  null : InputRule
  -- no value of the type
  wrong : InputRule
  -- the value of a scalar or an enum, as it came
  leaf : InputRule
  -- each element by this type
  elements : TypeRef → List Json → InputRule
  -- a list of one, whose element is of this type
  alone : TypeRef → InputRule
  -- the members by these fields of an input type
  input : List InputField → List (List ℕ × Json) → InputRule

abbrev pub input_rule : List InputField → Json-F Json → InputRule
input_rule fields (Json-F.Object members) = input fields members
input_rule fields _ = wrong

abbrev pub leaf_rule : List TypeDef → List ℕ → Json → InputRule
leaf_rule schema name v = if fits schema name v then leaf else wrong

abbrev pub named_rule : List TypeDef → List ℕ → Json → Json-F Json → Option (List InputField) → InputRule
named_rule schema name v layer None = leaf_rule schema name v
named_rule schema name v layer (Some fields) = input_rule fields layer

abbrev pub list_rule : TypeRef → Json-F Json → InputRule
list_rule t (Json-F.List items) = elements t items
list_rule t _ = alone t

abbrev pub value_rule : List TypeDef → Bare → Json → Json-F Json → InputRule
value_rule schema (list_of t) v layer = list_rule t layer
value_rule schema (named_type name) v layer = named_rule schema name v layer (inputs schema name)

abbrev pub null_rule : Bool → InputRule
null_rule true = wrong
null_rule false = null

abbrev pub rule_of : List TypeDef → TypeRef → Json → Json-F Json → InputRule
rule_of schema of v Json-F.Null = null_rule (is_required of)
rule_of schema of v layer = value_rule schema (bare of) v layer

abbrev pub rule : List TypeDef → TypeRef → Json → InputRule
rule schema of v = rule_of schema of v (out-Json v)

-- ---- outcomes

-- what was made, or the place of what was refused
pub data Coerced (X : Type 0) : Type 0 where
  fine : X → Coerced X
  refused : List Spot → Coerced X

abbrev pub after : {X : Type 0} → X → Coerced (List X) → Coerced (List X)
after x (fine xs) = fine (x ∷ xs)
after x (refused p) = refused p

abbrev pub as_some : Coerced Json → Coerced (Option Json)
as_some (fine v) = fine (Some v)
as_some (refused p) = refused p

abbrev pub after_some : List ℕ → Option Json → Coerced (List (List ℕ × Json)) → Coerced (List (List ℕ × Json))
after_some name None o = o
after_some name (Some v) o = after (name, v) o

abbrev pub is_null_at : Json-F Json → Bool
is_null_at Json-F.Null = true
is_null_at _ = false

abbrev pub is_null : Json → Bool
is_null v = is_null_at (out-Json v)

abbrev pub as_list : Coerced (List Json) → Coerced Json
as_list (fine items) = fine (j.List items)
as_list (refused p) = refused p

abbrev pub as_one : Coerced Json → Coerced Json
as_one (fine v) = fine (j.List (v ∷ []))
as_one (refused p) = refused p

abbrev pub has_field : List InputField → List ℕ → Bool
has_field [] name = false
has_field (f ∷ fs) name = bytes_eq f.name name || has_field fs name

-- the first name that is no field of the type
abbrev pub unknown_name : List InputField → List (List ℕ × Json) → Option (List ℕ)
unknown_name fields [] = None
unknown_name fields (m ∷ ms) = if has_field fields m.0 then unknown_name fields ms else Some m.0

abbrev pub object_unless : List Spot → List (List ℕ × Json) → Option (List ℕ) → Coerced Json
object_unless p made None = fine (j.Object made)
object_unless p made (Some name) = refused (p ++ (spot.Name name ∷ []))

-- names that the type lacks are looked for after the fields
abbrev pub as_object : List Spot → Option (List ℕ) → Coerced (List (List ℕ × Json)) → Coerced Json
as_object p unknown (fine made) = object_unless p made unknown
as_object p unknown (refused q) = refused q

-- ---- coercion

-- Coerces: the value, which stands at this place, is coerced by the type to that outcome. Items and CoercesFields go in order
-- and end with the first part that is refused.
mutual
  pub data Coerces (schema : List TypeDef) : TypeRef → Json → List Spot → Coerced Json → Type 0 where
    by_rule : {of : TypeRef} {v : Json} {p : List Spot} {o : Coerced Json} → FollowsRule schema (rule schema of v) v p o → Coerces schema of v p o

  pub data FollowsRule (schema : List TypeDef) : InputRule → Json → List Spot → Coerced Json → Type 0 where
    null_stays : {v : Json} {p : List Spot} → FollowsRule schema null v p (fine j.Null)
    is_wrong : {v : Json} {p : List Spot} → FollowsRule schema wrong v p (refused p)
    leaf_stays : {v : Json} {p : List Spot} → FollowsRule schema leaf v p (fine v)
    by_element : {v : Json} {p : List Spot} {t : TypeRef} {items : List Json} {o : Coerced (List Json)} →
        Items schema t p 0 items o → FollowsRule schema (elements t items) v p (as_list o)
    is_alone : {v : Json} {p : List Spot} {t : TypeRef} {o : Coerced Json} → Coerces schema t v p o → FollowsRule schema (alone t) v p (as_one o)
    by_field : {v : Json} {p : List Spot} {fields : List InputField} {members : List (List ℕ × Json)} {o : Coerced (List (List ℕ × Json))} →
        CoercesFields schema members p fields o → FollowsRule schema (input fields members) v p (as_object p (unknown_name fields members) o)

  pub data Items (schema : List TypeDef) : TypeRef → List Spot → ℕ → List Json → Coerced (List Json) → Type 0 where
    no_more : {t : TypeRef} {p : List Spot} {i : ℕ} → Items schema t p i [] (fine [])
    stops : {t : TypeRef} {p q : List Spot} {i : ℕ} {v : Json} {vs : List Json} → Coerces schema t v (p ++ (spot.Index i ∷ [])) (refused q) → Items schema t p i (v ∷ vs) (refused q)
    another : {t : TypeRef} {p : List Spot} {i : ℕ} {v w : Json} {vs : List Json} {o : Coerced (List Json)} →
        Coerces schema t v (p ++ (spot.Index i ∷ [])) (fine w) → Items schema t p (suc i) vs o → Items schema t p i (v ∷ vs) (after w o)

  -- what becomes of a field: a value, or none where it is left out
  pub data CoercesField (schema : List TypeDef) : List (List ℕ × Json) → List Spot → InputField → Coerced (Option Json) → Type 0 where
    is_given : {members : List (List ℕ × Json)} {p : List Spot} {f : InputField} {v : Json} {o : Coerced Json} →
        named f.name members ≡ Some v → Coerces schema f.of v (p ++ (spot.Name f.name ∷ [])) o → CoercesField schema members p f (as_some o)
    is_default : {members : List (List ℕ × Json)} {p : List Spot} {f : InputField} {d : Value} →
        named f.name members ≡ None → f.default ≡ Some d → CoercesField schema members p f (fine (Some (constant d)))
    is_left_out : {members : List (List ℕ × Json)} {p : List Spot} {f : InputField} →
        named f.name members ≡ None → f.default ≡ None → is_required f.of ≡ false → CoercesField schema members p f (fine None)
    is_missing : {members : List (List ℕ × Json)} {p : List Spot} {f : InputField} →
        named f.name members ≡ None → f.default ≡ None → is_required f.of ≡ true → CoercesField schema members p f (refused p)

  pub data CoercesFields (schema : List TypeDef) : List (List ℕ × Json) → List Spot → List InputField → Coerced (List (List ℕ × Json)) → Type 0 where
    no_field : {members : List (List ℕ × Json)} {p : List Spot} → CoercesFields schema members p [] (fine [])
    field_stops : {members : List (List ℕ × Json)} {p q : List Spot} {f : InputField} {fs : List InputField} →
        CoercesField schema members p f (refused q) → CoercesFields schema members p (f ∷ fs) (refused q)
    next_field : {members : List (List ℕ × Json)} {p : List Spot} {f : InputField} {fs : List InputField} {w : Option Json} {o : Coerced (List (List ℕ × Json))} →
        CoercesField schema members p f (fine w) → CoercesFields schema members p fs o → CoercesFields schema members p (f ∷ fs) (after_some f.name w o)

-- a refusal for another reason than memory has such a place
abbrev pub RefusesAt : Refusal → (List Spot → Type 0) → Type 0
RefusesAt refusals.Memory P = Unit {0}
RefusesAt (refusals.At p) P = P p

-- what was made is so, and what was refused
abbrev pub Makes : {X : Type 0} → Result X Refusal → (Coerced X → Type 0) → Type 0
Makes result P = IfOk result (λ w. P (fine w))

abbrev pub StopsThere : {X : Type 0} → Result X Refusal → (Coerced X → Type 0) → Type 0
StopsThere result P = IfErr result (λ e. RefusesAt e (λ q. P (refused q)))

-- a value that is not null, by the type of a list's elements
abbrev pub ListIs : List TypeDef → TypeRef → Json → List Spot → Coerced Json → Type 0
ListIs schema t v p o = FollowsRule schema (list_rule t (out-Json v)) v p o

-- a value that is not null, by the type with the name
abbrev pub NamedIs : List TypeDef → List ℕ → Json → List Spot → Coerced Json → Type 0
NamedIs schema name v p o = FollowsRule schema (named_rule schema name v (out-Json v) (inputs schema name)) v p o

-- what the members come to by these fields
abbrev pub InputIs : List TypeDef → List (List ℕ × Json) → List Spot → List InputField → Coerced Json → Type 0
InputIs schema members p fields r = (o : Coerced (List (List ℕ × Json))) × CoercesFields schema members p fields o × (as_object p (unknown_name fields members) o ≡ r)

-- the place of the first member with the name, or the number of members
abbrev pub place_of : List ℕ → List (List ℕ × Json) → ℕ
place_of name [] = 0
place_of name (m ∷ ms) = if bytes_eq m.0 name then 0 else suc (place_of name ms)
