-- An object has exactly the keys of the groups whose field its type has.
use Rattle.std.proofs.Common.{◌≡◌, ℕ, List, [], ◌∷◌, Option, Some, None, refl, sym, ap, subst}
use Rattle.json_value.specs.declared.tree.Json.{Json}
use Rattle.gql_shape.specs.Terms.{Scope}
use Rattle.gql_shape.specs.Completing.{FieldRule, type_name, unknown, typed, field_rule, after, all_done, its_type, left_out, field_climbs, field_stays}
use Rattle.gql_shape.specs.Keys.{with_key, keys, HaveKeys, ObjectsHaveKeys}

-- one more member, with the key of the group
one_more : (ks : List (List ℕ)) (key : List ℕ) (v : Json) (o : Option (List (List ℕ × Json))) → HaveKeys ks o → HaveKeys (key ∷ ks) (after (key, v) o)
one_more ks key v None h = tt
one_more ks key v (Some made) h = ap (λ (names : List (List ℕ)). key ∷ names) h

by_its_rule : (r q : FieldRule) (ks : List (List ℕ)) (key : List ℕ) (o : Option (List (List ℕ × Json))) → r ≡ q → HaveKeys (with_key q key ks) o → HaveKeys (with_key r key ks) o
by_its_rule r q ks key o is h = subst (λ (f : FieldRule). HaveKeys (with_key f key ks) o) (sym is) h

pub objects_have_keys : (s : Scope) → ObjectsHaveKeys s
objects_have_keys s object members p [] o es all_done = refl
objects_have_keys s object members p (g ∷ gs) o es (its_type {o = rest} {es = fs} is f) =
    by_its_rule (field_rule s.schema object g.first.name) type_name (keys s.schema object gs) g.first.key o is
    (one_more (keys s.schema object gs) g.first.key _ rest (objects_have_keys s object members p gs rest fs f))
objects_have_keys s object members p (g ∷ gs) o es (left_out {o = rest} {es = fs} is f) =
    by_its_rule (field_rule s.schema object g.first.name) unknown (keys s.schema object gs) g.first.key o is (objects_have_keys s object members p gs rest fs f)
objects_have_keys s object members p (g ∷ gs) o es (field_climbs is c) = tt
objects_have_keys s object members p (g ∷ gs) o es (field_stays {t = t} {w = w} {o = rest} {fs = fs} is c f) =
    by_its_rule (field_rule s.schema object g.first.name) (typed t) (keys s.schema object gs) g.first.key o is
    (one_more (keys s.schema object gs) g.first.key w rest (objects_have_keys s object members p gs rest fs f))
