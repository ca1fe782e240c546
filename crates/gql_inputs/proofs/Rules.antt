-- What the rules come to, by what was found of a value.
use Rattle.std.proofs.Common.{◌≡◌, ℕ, true, false, List, Some, None, Result, Ok, Err, IfOk, IfErr, IsErrAnd, refl, sym, ap, ◌∙◌, subst}
use Rattle.json_value.specs.declared.tree.Json.{Json, out-Json, roll-Json, roll-out-Json}
use Rattle.json_value.specs.declared.tree.Json.TheVariants as j
use Rattle.json_value.specs.declared.tree.Json.TheOpen.{Json-F}
use Rattle.json_paths.specs.declared.path.Spot.{Spot}
use Rattle.gql_terms.specs.declared.documents.TypeRef.{TypeRef}
use Rattle.gql_types.specs.declared.definition.TypeDef.{TypeDef}
use Rattle.gql_types.specs.declared.definition.InputField.{InputField}
use Rattle.gql_types.specs.Schemas.{inputs}
use Rattle.gql_leaves.specs.Bares.{named as named_type, list_of, bare, is_required}
use Rattle.gql_leaves.specs.Leaves.{fits}
use Rattle.gql_inputs.specs.declared.fault.Refusal.{Refusal}
use Rattle.gql_inputs.specs.declared.fault.Refusal.TheVariants as refusals
use Rattle.gql_inputs.specs.Coercing.{null, wrong, alone, input, rule, rule_of, value_rule, list_rule, named_rule, input_rule, null_rule, is_null, is_null_at, Coerced, fine, refused, as_list, Coerces, by_rule, FollowsRule, null_stays, is_wrong, leaf_stays, by_element, is_alone, as_one, by_field, InputIs, Items, RefusesAt}

pub Refuses-map : {P Q : List Spot → Type 0} (e : Refusal) → RefusesAt e P → ((q : List Spot) → P q → Q q) → RefusesAt e Q
Refuses-map refusals.Memory h f = tt
Refuses-map (refusals.At q) h f = f q h

pub IfOk-map : {A E : Type 0} {P Q : A → Type 0} (r : Result A E) → IfOk r P → ((x : A) → P x → Q x) → IfOk r Q
IfOk-map (Ok v) h f = f v h
IfOk-map (Err e) h f = tt

pub IfErr-map : {A E : Type 0} {P Q : E → Type 0} (r : Result A E) → IfErr r P → ((x : E) → P x → Q x) → IfErr r Q
IfErr-map (Ok v) h f = tt
IfErr-map (Err e) h f = f e h

null_layer : (l : Json-F Json) → is_null_at l ≡ true → l ≡ Json-F.Null
null_layer Json-F.Null is = refl
null_layer (Json-F.Bool b) is = absurd cc
null_layer (Json-F.Number t) is = absurd cc
null_layer (Json-F.Str t) is = absurd cc
null_layer (Json-F.List xs) is = absurd cc
null_layer (Json-F.Object ms) is = absurd cc

some_layer : (schema : List TypeDef) (of : TypeRef) (v : Json) (l : Json-F Json) → is_null_at l ≡ false → rule_of schema of v l ≡ value_rule schema (bare of) v l
some_layer schema of v Json-F.Null is = absurd cc
some_layer schema of v (Json-F.Bool b) is = refl
some_layer schema of v (Json-F.Number t) is = refl
some_layer schema of v (Json-F.Str t) is = refl
some_layer schema of v (Json-F.List xs) is = refl
some_layer schema of v (Json-F.Object ms) is = refl

module _ (schema : List TypeDef) (of : TypeRef) (v : Json) (p : List Spot) where
  at_null : is_null v ≡ true → rule schema of v ≡ null_rule (is_required of)
  at_null is = ap (rule_of schema of v) (null_layer (out-Json v) is)

  pub null_fine : is_null v ≡ true → is_required of ≡ false → Coerces schema of v p (fine j.Null)
  null_fine is required =
      let r : rule schema of v ≡ null = at_null is ∙ ap null_rule required in
      let f : FollowsRule schema (rule schema of v) v p (fine j.Null) = rw r null_stays in
      by_rule f

  pub null_refused : is_null v ≡ true → is_required of ≡ true → Coerces schema of v p (refused p)
  null_refused is required =
      let r : rule schema of v ≡ wrong = at_null is ∙ ap null_rule required in
      let f : FollowsRule schema (rule schema of v) v p (refused p) = rw r is_wrong in
      by_rule f

  pub by_value : (o : Coerced Json) → is_null v ≡ false → FollowsRule schema (value_rule schema (bare of) v (out-Json v)) v p o → Coerces schema of v p o
  by_value o is follows =
      let f : FollowsRule schema (rule schema of v) v p o = rw (some_layer schema of v (out-Json v) is) follows in
      by_rule f

  pub by_list : (o : Coerced Json) (t : TypeRef) → is_null v ≡ false → bare of ≡ list_of t → FollowsRule schema (list_rule t (out-Json v)) v p o → Coerces schema of v p o
  by_list o t is b follows =
      let f : FollowsRule schema (value_rule schema (bare of) v (out-Json v)) v p o = rw b follows in
      by_value o is f

  pub by_name : (o : Coerced Json) (name : List ℕ) → is_null v ≡ false → bare of ≡ named_type name → FollowsRule schema (named_rule schema name v (out-Json v) (inputs schema name)) v p o → Coerces schema of v p o
  by_name o name is b follows =
      let f : FollowsRule schema (value_rule schema (bare of) v (out-Json v)) v p o = rw b follows in
      by_value o is f

  pub by_inner : (o : Coerced Json) (t : TypeRef) → is_null v ≡ false → bare of ≡ bare t → Coerces schema t v p o → Coerces schema of v p o
  by_inner o t is b (by_rule f) =
      let g : FollowsRule schema (value_rule schema (bare t) v (out-Json v)) v p o = rw (some_layer schema t v (out-Json v) is) at f in
      let h : FollowsRule schema (value_rule schema (bare of) v (out-Json v)) v p o = rw b g in
      by_value o is h

module _ (schema : List TypeDef) (v : Json) (p : List Spot) where
  pub list_items : (t : TypeRef) (items : List Json) (o : Coerced (List Json)) → v ≡ j.List items → Items schema t p 0 items o → FollowsRule schema (list_rule t (out-Json v)) v p (as_list o)
  list_items t items o is run = rw (is, j.outs-List items) (by_element run)

-- ---- lists, input types and leaves

alone_layer : (t : TypeRef) (l : Json-F Json) → ((items : List Json) → l ≡ Json-F.List items → ⊥) → list_rule t l ≡ alone t
alone_layer t Json-F.Null other = refl
alone_layer t (Json-F.Bool b) other = refl
alone_layer t (Json-F.Number x) other = refl
alone_layer t (Json-F.Str x) other = refl
alone_layer t (Json-F.List xs) other = absurd (other xs refl)
alone_layer t (Json-F.Object ms) other = refl

input_layer : (fields : List InputField) (l : Json-F Json) → ((ms : List (List ℕ × Json)) → l ≡ Json-F.Object ms → ⊥) → input_rule fields l ≡ wrong
input_layer fields Json-F.Null other = refl
input_layer fields (Json-F.Bool b) other = refl
input_layer fields (Json-F.Number x) other = refl
input_layer fields (Json-F.Str x) other = refl
input_layer fields (Json-F.List xs) other = refl
input_layer fields (Json-F.Object ms) other = absurd (other ms refl)

rolled : (v : Json) (l : Json-F Json) → out-Json v ≡ l → v ≡ roll-Json l
rolled v l is = sym (roll-out-Json v) ∙ ap roll-Json is

module _ (schema : List TypeDef) (v : Json) (p : List Spot) where
  pub list_alone : (t : TypeRef) (o : Coerced Json) → ((items : List Json) → v ≡ j.List items → ⊥) → Coerces schema t v p o → FollowsRule schema (list_rule t (out-Json v)) v p (as_one o)
  list_alone t o other c = rw (alone_layer t (out-Json v) (λ items is. other items (rolled v (Json-F.List items) is ∙ j.rolls-List items))) (is_alone c)

  pub input_members : (name : List ℕ) (fields : List InputField) (ms : List (List ℕ × Json)) (o : Coerced Json) → inputs schema name ≡ Some fields → v ≡ j.Object ms → InputIs schema ms p fields o →
      FollowsRule schema (named_rule schema name v (out-Json v) (inputs schema name)) v p o
  input_members name fields ms o found is run = rw (found, is, j.outs-Object ms) (subst (λ (r : Coerced Json). FollowsRule schema (input fields ms) (j.Object ms) p r) run.2 (by_field run.1))

  pub input_wrong : (name : List ℕ) (fields : List InputField) → inputs schema name ≡ Some fields → ((ms : List (List ℕ × Json)) → v ≡ j.Object ms → ⊥) →
      FollowsRule schema (named_rule schema name v (out-Json v) (inputs schema name)) v p (refused p)
  input_wrong name fields found other = rw (found, input_layer fields (out-Json v) (λ ms is. other ms (rolled v (Json-F.Object ms) is ∙ j.rolls-Object ms))) is_wrong

  pub leaf_fits : (name : List ℕ) → inputs schema name ≡ None → fits schema name v ≡ true → FollowsRule schema (named_rule schema name v (out-Json v) (inputs schema name)) v p (fine v)
  leaf_fits name found is = rw (found, is) leaf_stays

  pub leaf_wrong : (name : List ℕ) → inputs schema name ≡ None → fits schema name v ≡ false → FollowsRule schema (named_rule schema name v (out-Json v) (inputs schema name)) v p (refused p)
  leaf_wrong name found is = rw (found, is) is_wrong

-- ---- refusals that are handed on

pub handed : {A E : Type 0} (P : E → Type 0) (r : Result A E) (e : E) → IsErrAnd r (λ x. x ≡ e) → P e → IfErr r P
handed P (Ok v) e h p = tt
handed P (Err x) e h p = subst P (sym h) p

pub no_value : {A E : Type 0} (P : A → Type 0) (r : Result A E) (Q : E → Type 0) → IsErrAnd r Q → IfOk r P
no_value P (Ok v) Q h = absurd h
no_value P (Err x) Q h = tt

pub always : {A E : Type 0} {P : Type 0} (r : Result A E) → P → IfOk r (λ _. P)
always (Ok v) p = p
always (Err x) p = tt
