-- What a type's name stands for, and what is kept of the rule of a field.
use Rattle.std.proofs.Common.{◌≡◌, ℕ, Bool, true, false, List, ◌∷◌, [], ◌++◌, Option, Some, None, Bor, IfSome, refl, sym, ap, ◌∙◌, subst}
use Rattle.std.specs.Prelude.{not, ◌&&◌, ◌||◌, if◌then◌else◌, codes}
use Rattle.std.specs.Option.{option_copied}
use Rattle.std.specs.Str.{bytes_eq}
use Rattle.json_value.specs.declared.tree.Json.{Json, out-Json}
use Rattle.json_value.specs.declared.tree.Json.TheOpen.{Json-F}
use Rattle.json_value.specs.Members.{named}
use Rattle.json_paths.specs.declared.path.Spot.{Spot}
use Rattle.json_paths.specs.declared.path.Spot.TheVariants as spot
use Rattle.gql_terms.specs.declared.documents.TypeRef.{TypeRef, map-TypeRef}
use Rattle.gql_terms.specs.declared.documents.TypeRef.TheVariants as type_ref
use Rattle.gql_terms.specs.declared.documents.TypeRef.TheOpen.{TypeRef-F}
use Rattle.gql_terms.specs.declared.documents.TypeRef.TheViews.{roll-TypeRef}
use Rattle.gql_terms.specs.declared.documents.TypeRef.TheFolds.{fold-roll-TypeRef, ind-TypeRef}
use Rattle.gql_terms.specs.declared.documents.Selection.{Selection}
use Rattle.gql_types.specs.declared.definition.Kind.{Kind}
use Rattle.gql_types.specs.declared.definition.Kind.TheVariants as kinds
use Rattle.gql_types.specs.declared.definition.TypeDef.{TypeDef}
use Rattle.gql_types.specs.Schemas as schemas
use Rattle.gql_leaves.specs.Bares.{Bare, named as named_type, list_of, bare}
use Rattle.gql_leaves.specs.Leaves.{is_integer, is_number, is_string, is_bool, fits_kind}
use Rattle.gql_leaves.proofs.Bares.{bare-Named, bare-ListOf, bare-NonNull}
use Rattle.gql_shape.specs.declared.base.Base.{Base}
use Rattle.gql_shape.specs.declared.base.Base.TheVariants as bases
use Rattle.gql_shape.specs.declared.shaped.ShapeError.{ShapeError}
use Rattle.gql_shape.specs.Terms.{Scope}
use Rattle.gql_shape.specs.Completing.{Completes, or_null, FieldRule, type_name, unknown, typed, is_composite_kind, is_composite, is_leaf, list_type, composite_type}
use Rattle.gql_shape.specs.Kept.{base_step, base_name, base_by, base_named, base_of, is_composite_base, base_fits, its_name, lacks, of_type, kept_as, member_of, CompletesField}

-- ---- the name in a type

pub base_name-Named : (name : List ℕ) → base_name (type_ref.Named name) ≡ name
base_name-Named name = ap base_name (sym (type_ref.rolls-Named name)) ∙ fold-roll-TypeRef (List ℕ) base_step (TypeRef-F.Named name)

pub base_name-ListOf : (t : TypeRef) → base_name (type_ref.ListOf t) ≡ base_name t
base_name-ListOf t = ap base_name (sym (type_ref.rolls-ListOf t)) ∙ fold-roll-TypeRef (List ℕ) base_step (TypeRef-F.ListOf t)

pub base_name-NonNull : (t : TypeRef) → base_name (type_ref.NonNull t) ≡ base_name t
base_name-NonNull t = ap base_name (sym (type_ref.rolls-NonNull t)) ∙ fold-roll-TypeRef (List ℕ) base_step (TypeRef-F.NonNull t)

named_same : {n m : List ℕ} → named_type n ≡ named_type m → n ≡ m
named_same e = cc

list_same : {t u : TypeRef} → list_of t ≡ list_of u → t ≡ u
list_same e = cc

named_list : {n : List ℕ} {t : TypeRef} → named_type n ≡ list_of t → ⊥
named_list e = cc

-- it is the name under the marks, or that of the elements
abbrev IsUnder : TypeRef → Type 0
IsUnder of = ((name : List ℕ) → bare of ≡ named_type name → base_name of ≡ name) × ((t : TypeRef) → bare of ≡ list_of t → base_name t ≡ base_name of)

under_at : (y : TypeRef-F ((t : TypeRef) × IsUnder t)) → IsUnder (roll-TypeRef (map-TypeRef ((t : TypeRef) × IsUnder t) TypeRef (λ e. e.0) y))
under_at (TypeRef-F.Named n) = subst IsUnder (sym (type_ref.rolls-Named n))
    ((λ name is. base_name-Named n ∙ named_same (sym (bare-Named n) ∙ is)), (λ t is. absurd (named_list (sym (bare-Named n) ∙ is))))
under_at (TypeRef-F.ListOf p) = subst IsUnder (sym (type_ref.rolls-ListOf p.0))
    ((λ name is. absurd (named_list (sym is ∙ bare-ListOf p.0))), (λ t is. sym (base_name-ListOf p.0 ∙ ap base_name (list_same (sym (bare-ListOf p.0) ∙ is)))))
under_at (TypeRef-F.NonNull p) = subst IsUnder (sym (type_ref.rolls-NonNull p.0))
    ((λ name is. base_name-NonNull p.0 ∙ p.1.0 name (sym (bare-NonNull p.0) ∙ is)), (λ t is. p.1.1 t (sym (bare-NonNull p.0) ∙ is) ∙ sym (base_name-NonNull p.0)))

under : (of : TypeRef) → IsUnder of
under = ind-TypeRef IsUnder (λ x y is. subst (λ z. IsUnder (roll-TypeRef z)) is (under_at y))

-- ---- what the name stands for

pub base-named : (schema : List TypeDef) (of : TypeRef) (name : List ℕ) → bare of ≡ named_type name → base_of schema of ≡ base_named schema name
base-named schema of name is = ap (base_named schema) ((under of).0 name is)

base-bare : (schema : List TypeDef) (of t : TypeRef) → bare of ≡ list_of t → base_of schema t ≡ base_of schema of
base-bare schema of t is = ap (base_named schema) ((under of).1 t is)

element_of : (b : Bare) (t : TypeRef) → list_type b ≡ Some t → b ≡ list_of t
element_of (list_of u) t is = cc
element_of (named_type name) t is = absurd cc

-- the elements have the name of the list
pub base-element : (schema : List TypeDef) (of t : TypeRef) → list_type (bare of) ≡ Some t → base_of schema t ≡ base_of schema of
base-element schema of t is = base-bare schema of t (element_of (bare of) t is)

pub elements-based : (schema : List TypeDef) (of : TypeRef) (base : Base) (r : Option (Bor TypeRef)) → option_copied r ≡ list_type (bare of) → base ≡ base_of schema of →
    IfSome r (λ t. base ≡ base_of schema t.now)
elements-based schema of base None is based = tt
elements-based schema of base (Some t) is based = based ∙ sym (base-element schema of t.now (sym is))

module _ (schema : List TypeDef) (name : List ℕ) where
  no_composite : (a b c d e : Bool) →
      is_composite_base (if a then bases.Int else if b then bases.Float else if c then bases.Str else if d then bases.Bool else if e then bases.Id else bases.Custom) ≡ false
  no_composite true b c d e = refl
  no_composite false true c d e = refl
  no_composite false false true d e = refl
  no_composite false false false true e = refl
  no_composite false false false false true = refl
  no_composite false false false false false = refl

  composite_by : (k : Option Kind) → is_composite_base (base_by name k) ≡ is_composite_kind k
  composite_by None = refl
  composite_by (Some kinds.Scalar) =
      no_composite (bytes_eq name (codes "Int")) (bytes_eq name (codes "Float")) (bytes_eq name (codes "String")) (bytes_eq name (codes "Boolean")) (bytes_eq name (codes "ID"))
  composite_by (Some kinds.Enum) = refl
  composite_by (Some kinds.Object) = refl
  composite_by (Some kinds.Interface) = refl
  composite_by (Some kinds.Union) = refl
  composite_by (Some kinds.Input) = refl

  pub composite-base : is_composite_base (base_named schema name) ≡ is_composite schema name
  composite-base = composite_by (schemas.kind schema name)

  scalar_by : (v : Json-F Json) (a b c d e : Bool) →
      (if a then is_integer v else if b then is_number v else if c then is_string v else if d then is_bool v else if e then is_string v || is_integer v else true)
      ≡ base_fits schema name v (if a then bases.Int else if b then bases.Float else if c then bases.Str else if d then bases.Bool else if e then bases.Id else bases.Custom)
  scalar_by v true b c d e = refl
  scalar_by v false true c d e = refl
  scalar_by v false false true d e = refl
  scalar_by v false false false true e = refl
  scalar_by v false false false false true = refl
  scalar_by v false false false false false = refl

  leaf_by : (v : Json-F Json) (k : Option Kind) → (not (is_composite_kind k) && fits_kind schema name v k) ≡ base_fits schema name v (base_by name k)
  leaf_by v None = refl
  leaf_by v (Some kinds.Scalar) =
      scalar_by v (bytes_eq name (codes "Int")) (bytes_eq name (codes "Float")) (bytes_eq name (codes "String")) (bytes_eq name (codes "Boolean")) (bytes_eq name (codes "ID"))
  leaf_by v (Some kinds.Enum) = refl
  leaf_by v (Some kinds.Object) = refl
  leaf_by v (Some kinds.Interface) = refl
  leaf_by v (Some kinds.Union) = refl
  leaf_by v (Some kinds.Input) = refl

  pub leaf-base : (v : Json) → is_leaf schema name v ≡ base_fits schema name (out-Json v) (base_named schema name)
  leaf-base v = leaf_by (out-Json v) (schemas.kind schema name)

module _ (schema : List TypeDef) (of : TypeRef) (name : List ℕ) (base : Base) (is : bare of ≡ named_type name) (based : base ≡ base_of schema of) where
  composite-is : is_composite schema name ≡ is_composite_base base
  composite-is = sym (composite-base schema name) ∙ ap is_composite_base (sym (based ∙ base-named schema of name is))

  pub named-composite : is_composite_base base ≡ true → Some name ≡ composite_type schema (bare of)
  named-composite yes_it = rw (is, composite-is, yes_it) refl

  pub named-no_composite : is_composite_base base ≡ false → None ≡ composite_type schema (bare of)
  named-no_composite not_it = rw (is, composite-is, not_it) refl

-- ---- the rule of a field

module _ (schema : List TypeDef) where
  pub is-type_name : (r : FieldRule) → its_name ≡ kept_as schema r → r ≡ type_name
  is-type_name type_name is = refl
  is-type_name unknown is = absurd cc
  is-type_name (typed t) is = absurd cc

  pub is-unknown : (r : FieldRule) → lacks ≡ kept_as schema r → r ≡ unknown
  is-unknown type_name is = absurd cc
  is-unknown unknown is = refl
  is-unknown (typed t) is = absurd cc

  pub is-typed : (r : FieldRule) (of : TypeRef) (base : Base) → of_type of base ≡ kept_as schema r → (r ≡ typed of) × (base ≡ base_of schema of)
  is-typed type_name of base is = absurd cc
  is-typed unknown of base is = absurd cc
  is-typed (typed t) of base is =
      let same : of ≡ t = cc in
      let stands : base ≡ base_of schema t = cc in
      (ap typed (sym same), stands ∙ ap (base_of schema) (sym same))

-- ---- the member of a field

value-none : (key : List ℕ) (o : Option Json) → None ≡ member_of key o → o ≡ None
value-none key None is = refl
value-none key (Some v) is = absurd cc

value-some : (key : List ℕ) (o : Option Json) (m : List ℕ × Json) → Some m ≡ member_of key o → o ≡ Some m.1
value-some key None m is = absurd cc
value-some key (Some v) m is = let same : m ≡ (key, v) = cc in ap (λ (n : List ℕ × Json). Some n.1) (sym same)

key-some : (key : List ℕ) (o : Option Json) (m : List ℕ × Json) → Some m ≡ member_of key o → m ≡ (key, m.1)
key-some key None m is = absurd cc
key-some key (Some v) m is = let same : m ≡ (key, v) = cc in same ∙ ap (λ (n : List ℕ × Json). (key, n.1)) (sym same)

module _ (s : Scope) (of : TypeRef) (xs : List Selection) (key : List ℕ) (members : List (List ℕ × Json)) (p : List Spot) (es : List ShapeError) where
  pub no-member : CompletesField s of xs key members p None es → Completes s of xs (or_null (named key members)) (p ++ (spot.Name key ∷ [])) None es
  no-member h = rw (value-none key h.value h.member) at h.completes

  pub a-member : (m : List ℕ × Json) → CompletesField s of xs key members p (Some m) es →
      Completes s of xs (or_null (named key members)) (p ++ (spot.Name key ∷ [])) (Some m.1) es × (m ≡ (key, m.1))
  a-member m h = (rw (value-some key h.value m h.member) at h.completes, key-some key h.value m h.member)
