-- How large the types of input fields are, by which coercion comes to its end.
use Rattle.std.proofs.Common.{◌≡◌, ℕ, ◌<◌, ◌≤◌, Bool, true, false, List, [], ◌∷◌, Option, Some, None, length, get_or, ◌⊎◌, inl, inr, refl, ap, arith}
use Rattle.std.specs.Str.{bytes_eq}
use denote.Param.Weighed.{most, at_most}
use Rattle.gql_terms.specs.declared.documents.TypeRef.{TypeRef}
use Rattle.gql_types.specs.declared.definition.InputField.{InputField}
use Rattle.gql_types.specs.declared.definition.TypeBody.{TypeBody}
use Rattle.gql_types.specs.declared.definition.TypeBody.TheVariants as body
use Rattle.gql_types.specs.declared.definition.TypeDef.{TypeDef}
use Rattle.gql_types.specs.Schemas.{body_of, inputs, inputs_of}

pub either : (b : Bool) → (b ≡ true) ⊎ (b ≡ false)
either true = inl refl
either false = inr refl

abbrev pub fields_in : TypeBody → List InputField
fields_in (body.Input fields) = fields
fields_in _ = []

abbrev pub wide : (TypeRef → ℕ) → List InputField → ℕ
wide μ fields = most (λ f. μ f.of) fields

-- the largest type of an input field
abbrev pub widest : (TypeRef → ℕ) → List TypeDef → ℕ
widest μ schema = most (λ t. wide μ (fields_in t.body)) schema

body-in : (μ : TypeRef → ℕ) (schema : List TypeDef) (name : List ℕ) (b : TypeBody) → body_of schema name ≡ Some b → wide μ (fields_in b) ≤ widest μ schema
body-in μ [] name b is = absurd cc
body-in μ (t ∷ ts) name b is = elim (either (bytes_eq t.name name)) [
  | inl this ↦ (
      let at : Some t.body ≡ Some b = rw this at is in
      let same : t.body ≡ b = cc in
      let e : wide μ (fields_in t.body) ≡ wide μ (fields_in b) = ap (λ (c : TypeBody). wide μ (fields_in c)) same in
      omega arith)
  | inr other ↦ (
      let there : body_of ts name ≡ Some b = rw other at is in
      let later : wide μ (fields_in b) ≤ widest μ ts = body-in μ ts name b there in
      omega arith)
]

inputs-in : (μ : TypeRef → ℕ) (schema : List TypeDef) (name : List ℕ) (fields : List InputField) (o : Option TypeBody) → body_of schema name ≡ o → inputs_of o ≡ Some fields → wide μ fields ≤ widest μ schema
inputs-in μ schema name fields None b is = absurd cc
inputs-in μ schema name fields (Some body.Scalar) b is = absurd cc
inputs-in μ schema name fields (Some (body.Object x y)) b is = absurd cc
inputs-in μ schema name fields (Some (body.Interface x y)) b is = absurd cc
inputs-in μ schema name fields (Some (body.Union x)) b is = absurd cc
inputs-in μ schema name fields (Some (body.Enum x)) b is = absurd cc
inputs-in μ schema name fields (Some (body.Input x)) b is =
    let same : x ≡ fields = cc in
    let e : wide μ x ≡ wide μ fields = ap (wide μ) same in
    let h : wide μ x ≤ widest μ schema = body-in μ schema name (body.Input x) b in
    omega arith

pub field-in : (μ : TypeRef → ℕ) (schema : List TypeDef) (name : List ℕ) (fields : List InputField) (i : ℕ) (f : InputField) → inputs schema name ≡ Some fields → i < length fields → f ≡ get_or fields i f → μ f.of ≤ widest μ schema
field-in μ schema name fields i f is within same =
    let h : wide μ fields ≤ widest μ schema = inputs-in μ schema name fields (body_of schema name) refl is in
    let k : μ (get_or fields i f).of ≤ wide μ fields = at_most (λ (g : InputField). μ g.of) fields i f within in
    let e : μ f.of ≡ μ (get_or fields i f).of = ap (λ (g : InputField). μ g.of) same in
    omega arith
