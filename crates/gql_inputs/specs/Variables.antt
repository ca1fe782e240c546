-- The values of an operation's variables, definition by definition (October 2021, section 6.1.2).
use Rattle.std.specs.Prelude.{◌≡◌, ℕ, Bool, true, false, ◌||◌, List, [], ◌∷◌, ◌++◌, Option, Some, None}
use Rattle.std.specs.Str.{bytes_eq}
use Rattle.json_value.specs.declared.tree.Json.{Json, out-Json}
use Rattle.json_value.specs.declared.tree.Json.TheVariants as j
use Rattle.json_value.specs.declared.tree.Json.TheOpen.{Json-F}
use Rattle.json_value.specs.Members.{named}
use Rattle.json_paths.specs.declared.path.Spot.{Spot}
use Rattle.gql_terms.specs.declared.documents.Value.{Value}
use Rattle.gql_terms.specs.declared.documents.VarDef.{VarDef}
use Rattle.gql_types.specs.declared.definition.TypeDef.{TypeDef}
use Rattle.gql_leaves.specs.Bares.{is_required}
use Rattle.gql_inputs.specs.declared.fault.Refusal.{Refusal}
use Rattle.gql_inputs.specs.declared.fault.Refusal.TheVariants as refusals
use Rattle.gql_inputs.specs.declared.fault.VarFault.{VarFault}
use Rattle.gql_inputs.specs.declared.fault.VarFault.TheVariants as faults
use Rattle.gql_inputs.specs.Constants.{constant}
use Rattle.gql_inputs.specs.Coercing.{is_null, Coerces, fine, refused}

abbrev pub members_at : Json-F Json → List (List ℕ × Json)
members_at (Json-F.Object members) = members
members_at _ = []

-- the members of an object; another value has none
abbrev pub members_of : Json → List (List ℕ × Json)
members_of v = members_at (out-Json v)

-- what was made, or what is wrong
pub data Coercion (X : Type 0) : Type 0 where
  known : X → Coercion X
  faulty : VarFault → Coercion X

abbrev pub after_known : List ℕ → Option Json → Coercion (List (List ℕ × Json)) → Coercion (List (List ℕ × Json))
after_known name w (faulty e) = faulty e
after_known name None (known ms) = known ms
after_known name (Some w) (known ms) = known ((name, w) ∷ ms)

abbrev pub defines : List VarDef → List ℕ → Bool
defines [] name = false
defines (d ∷ ds) name = bytes_eq d.name name || defines ds name

-- what becomes of a variable: a value, or none where it is left out
pub data CoercesVariable (schema : List TypeDef) (given : List (List ℕ × Json)) : VarDef → Coercion (Option Json) → Type 0 where
  is_value : {d : VarDef} {v w : Json} → named d.name given ≡ Some v → Coerces schema d.of v [] (fine w) → CoercesVariable schema given d (known (Some w))
  is_wrong : {d : VarDef} {v : Json} {q : List Spot} → named d.name given ≡ Some v → is_null v ≡ false → Coerces schema d.of v [] (refused q) →
      CoercesVariable schema given d (faulty (faults.WrongKind d.name (record { spots = q })))
  is_null_given : {d : VarDef} {v : Json} → named d.name given ≡ Some v → is_null v ≡ true → is_required d.of ≡ true → CoercesVariable schema given d (faulty (faults.Null d.name))
  is_default : {d : VarDef} {c : Value} → named d.name given ≡ None → d.default ≡ Some c → CoercesVariable schema given d (known (Some (constant c)))
  is_left_out : {d : VarDef} → named d.name given ≡ None → d.default ≡ None → is_required d.of ≡ false → CoercesVariable schema given d (known None)
  is_missing : {d : VarDef} → named d.name given ≡ None → d.default ≡ None → is_required d.of ≡ true → CoercesVariable schema given d (faulty (faults.Missing d.name))

-- After these definitions, those come to that. A second definition of one name is passed over.
pub data CoercesVariables (schema : List TypeDef) (given : List (List ℕ × Json)) : List VarDef → List VarDef → Coercion (List (List ℕ × Json)) → Type 0 where
  no_more : {before : List VarDef} → CoercesVariables schema given before [] (known [])
  passed_over : {before ds : List VarDef} {d : VarDef} {o : Coercion (List (List ℕ × Json))} →
      defines before d.name ≡ true → CoercesVariables schema given (before ++ (d ∷ [])) ds o → CoercesVariables schema given before (d ∷ ds) o
  stops : {before ds : List VarDef} {d : VarDef} {e : VarFault} →
      defines before d.name ≡ false → CoercesVariable schema given d (faulty e) → CoercesVariables schema given before (d ∷ ds) (faulty e)
  another : {before ds : List VarDef} {d : VarDef} {w : Option Json} {o : Coercion (List (List ℕ × Json))} →
      defines before d.name ≡ false → CoercesVariable schema given d (known w) → CoercesVariables schema given (before ++ (d ∷ [])) ds o →
      CoercesVariables schema given before (d ∷ ds) (after_known d.name w o)

-- the object of the variables' values
abbrev pub IsCoerced : List TypeDef → List VarDef → Json → Json → Type 0
IsCoerced schema definitions given v = (ms : List (List ℕ × Json)) × CoercesVariables schema (members_of given) [] definitions (known ms) × (v ≡ j.Object ms)

-- a fault other than want of memory is so
abbrev pub Faults : VarFault → Type 0 → Type 0
Faults faults.Memory P = Unit {0}
Faults _ P = P

-- the fault of these variables
abbrev pub IsFirstFaultOf : List TypeDef → List VarDef → Json → VarFault → Type 0
IsFirstFaultOf schema definitions given e = Faults e (CoercesVariables schema (members_of given) [] definitions (faulty e))

-- what variables come to is one
abbrev pub HasOneAnswer : List TypeDef → List VarDef → Json → Type 0
HasOneAnswer schema definitions given =
    (a b : Coercion (List (List ℕ × Json))) → CoercesVariables schema (members_of given) [] definitions a → CoercesVariables schema (members_of given) [] definitions b → a ≡ b

abbrev pub IsFaultOf : List TypeDef → List (List ℕ × Json) → VarDef → VarFault → Type 0
IsFaultOf schema given d e = Faults e (CoercesVariable schema given d (faulty e))

-- what becomes of a variable wherever no value, or this value, is given for it
abbrev pub WhenAbsent : VarDef → Coercion (Option Json) → Type 0
WhenAbsent d f = (schema : List TypeDef) (given : List (List ℕ × Json)) → named d.name given ≡ None → CoercesVariable schema given d f

abbrev pub WhenGiven : List TypeDef → VarDef → Json → Coercion (Option Json) → Type 0
WhenGiven schema d v f = (given : List (List ℕ × Json)) → named d.name given ≡ Some v → CoercesVariable schema given d f

-- the fault of the first of these definitions that has one
abbrev pub IsFault : List TypeDef → List (List ℕ × Json) → List VarDef → VarFault → Type 0
IsFault schema given definitions e = Faults e (CoercesVariables schema given [] definitions (faulty e))

abbrev pub missing : List ℕ → VarFault
missing name = faults.Missing name

abbrev pub null_given : List ℕ → VarFault
null_given name = faults.Null name

abbrev pub wrong_kind : List ℕ → List Spot → VarFault
wrong_kind name q = faults.WrongKind name (record { spots = q })

abbrev pub with_known : List ℕ → Option Json → List (List ℕ × Json) → List (List ℕ × Json)
with_known name None made = made
with_known name (Some w) made = made ++ ((name, w) ∷ [])

-- what one more definition makes of the values made so far
pub data Next (schema : List TypeDef) (given : List (List ℕ × Json)) (d : VarDef) (made : List (List ℕ × Json)) : List (List ℕ × Json) → Type 0 where
  one_more : {w : Option Json} → CoercesVariable schema given d (known w) → Next schema given d made (with_known d.name w made)

-- a refusal that is not want of memory, at such a place
abbrev pub IsPlacedAt : Refusal → (List Spot → Type 0) → Type 0
IsPlacedAt refusals.Memory P = ⊥
IsPlacedAt (refusals.At q) P = P q
