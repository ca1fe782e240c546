-- What is required, one level of a value at a time.
use Rattle.std.proofs.Common.{◌≡◌, ℕ, Bool, true, false, List, [], ◌∷◌, Option, Some, None, refl, ap, ◌∙◌, sym}
use Rattle.std.specs.Prelude.{map, codes, if◌then◌else◌}
use Rattle.std.specs.Str.{bytes_eq}
use Rattle.json_value.specs.declared.tree.Json.{Json}
use Rattle.json_value.specs.declared.tree.Json.TheVariants as json
use Rattle.json_value.specs.declared.tree.Json.TheOpen.{Json-F}
use Rattle.json_value.specs.Members.{member, member_at, named}
use Rattle.json_value.proofs.Parts.{with_made, member_made, by_parts-null, by_parts-bool, by_parts-number, by_parts-string, by_parts-list, by_parts-object}
use Rattle.json_value.proofs.Cases.{Kind, kind_of, is_null, is_bool, is_number, is_string, is_list, is_object, out-null, out-bool, out-number, out-string, out-list, out-object}
use Rattle.json_paths.specs.declared.needs.Need.{Need}
use Rattle.json_paths.specs.declared.needs.Need.TheViews.{roll-Need}
use Rattle.plan_book.specs.Forms.{Needing, need_made, part, fields_made, need_with, needing_step, needing, need_of, fields_in, text_in, if_fits, are_needs, all_of}

-- the part of an object with this name
the_part : (name : List ℕ) (ms : List (List ℕ × Json)) → fields_made (part name (map (member_made needing_step) ms)) ≡ fields_in (named name ms)
unfolding needing
the_part name [] = refl
the_part name (m ∷ ms) = by_name (bytes_eq m.0 name) refl (the_part name ms)
  where
    by_name : (b : Bool) → bytes_eq m.0 name ≡ b → fields_made (part name (map (member_made needing_step) ms)) ≡ fields_in (named name ms) → fields_made (part name (map (member_made needing_step) (m ∷ ms))) ≡ fields_in (named name (m ∷ ms))
    by_name true e rest = rw e refl
    by_name false e rest = rw e rest

unnamed : (v : Json) → member v (codes "name") ≡ None → need_with (text_in (member v (codes "name"))) (fields_in (member v (codes "fields"))) ≡ None
unnamed v none = ap (λ (o : Option Json). need_with (text_in o) (fields_in (member v (codes "fields")))) none

-- a field by its members; what is no object has none
pub need_is : (v : Json) → need_of v ≡ need_with (text_in (member v (codes "name"))) (fields_in (member v (codes "fields")))
unfolding needing
need_is v = by_kind (kind_of v)
  where
    by_kind : {v : Json} → Kind v → need_of v ≡ need_with (text_in (member v (codes "name"))) (fields_in (member v (codes "fields")))
    by_kind is_null = ap (λ (n : Needing). n.need) (by_parts-null needing_step) ∙ sym (unnamed json.Null (ap (member_at (codes "name")) out-null))
    by_kind (is_bool b) = ap (λ (n : Needing). n.need) (by_parts-bool needing_step b) ∙ sym (unnamed (json.Bool b) (ap (member_at (codes "name")) (out-bool b)))
    by_kind (is_number t) = ap (λ (n : Needing). n.need) (by_parts-number needing_step t) ∙ sym (unnamed (json.Number t) (ap (member_at (codes "name")) (out-number t)))
    by_kind (is_string t) = ap (λ (n : Needing). n.need) (by_parts-string needing_step t) ∙ sym (unnamed (json.Str t) (ap (member_at (codes "name")) (out-string t)))
    by_kind (is_list xs) = ap (λ (n : Needing). n.need) (by_parts-list needing_step xs) ∙ sym (unnamed (json.List xs) (ap (member_at (codes "name")) (out-list xs)))
    by_kind (is_object ms) =
        ap (λ (n : Needing). n.need) (by_parts-object needing_step ms)
        ∙ ap (need_with (text_in (member (json.Object ms) (codes "name")))) (the_part (codes "fields") ms ∙ sym (ap (λ (l : Json-F Json). fields_in (member_at (codes "fields") l)) (out-object ms)))

pub need_some : (v : Json) (name : List ℕ) (fields : List Need) → text_in (member v (codes "name")) ≡ Some name → fields_in (member v (codes "fields")) ≡ Some fields →
    need_of v ≡ Some (roll-Need (record { name = name; fields = fields }))
need_some v name fields named_so has =
    need_is v ∙ ap (λ (o : Option (List ℕ)). need_with o (fields_in (member v (codes "fields")))) named_so ∙ ap (need_with (Some name)) has

pub need_unnamed : (v : Json) → text_in (member v (codes "name")) ≡ None → need_of v ≡ None
need_unnamed v none = need_is v ∙ ap (λ (o : Option (List ℕ)). need_with o (fields_in (member v (codes "fields")))) none

pub need_unformed : (v : Json) (name : List ℕ) → text_in (member v (codes "name")) ≡ Some name → fields_in (member v (codes "fields")) ≡ None → need_of v ≡ None
need_unformed v name named_so none = need_is v ∙ ap (λ (o : Option (List ℕ)). need_with o (fields_in (member v (codes "fields")))) named_so ∙ ap (need_with (Some name)) none

-- ---- lists of fields

each_made : (xs : List Json) → map need_made (map (with_made needing_step) xs) ≡ map need_of xs
unfolding needing
each_made [] = refl
each_made (x ∷ xs) = ap (λ (os : List (Option Need)). need_of x ∷ os) (each_made xs)

pub needs-list : (xs : List Json) → (needing (json.List xs)).needs ≡ if_fits are_needs (all_of (map need_of xs))
unfolding needing
needs-list xs = ap (λ (n : Needing). n.needs) (by_parts-list needing_step xs) ∙ ap (λ (os : List (Option Need)). if_fits are_needs (all_of os)) (each_made xs)

pub needs-other : (v : Json) → ((xs : List Json) → v ≡ json.List xs → ⊥) → (needing v).needs ≡ None
unfolding needing
needs-other v list = by_kind (kind_of v) list
  where
    by_kind : {v : Json} → Kind v → ((xs : List Json) → v ≡ json.List xs → ⊥) → (needing v).needs ≡ None
    by_kind is_null list = ap (λ (n : Needing). n.needs) (by_parts-null needing_step)
    by_kind (is_bool b) list = ap (λ (n : Needing). n.needs) (by_parts-bool needing_step b)
    by_kind (is_number t) list = ap (λ (n : Needing). n.needs) (by_parts-number needing_step t)
    by_kind (is_string t) list = ap (λ (n : Needing). n.needs) (by_parts-string needing_step t)
    by_kind (is_list xs) list = absurd (list xs refl)
    by_kind (is_object ms) list = ap (λ (n : Needing). n.needs) (by_parts-object needing_step ms)

pub needs_listed : (v : Json) (ns : List Need) → (needing v).needs ≡ Some ns → (xs : List Json) × (v ≡ json.List xs)
unfolding needing
needs_listed v ns is = by_kind (kind_of v) is
  where
    by_kind : {v : Json} → Kind v → (needing v).needs ≡ Some ns → (xs : List Json) × (v ≡ json.List xs)
    by_kind is_null is = let e : (needing json.Null).needs ≡ None = ap (λ (n : Needing). n.needs) (by_parts-null needing_step) in absurd cc
    by_kind (is_bool b) is = let e : (needing (json.Bool b)).needs ≡ None = ap (λ (n : Needing). n.needs) (by_parts-bool needing_step b) in absurd cc
    by_kind (is_number t) is = let e : (needing (json.Number t)).needs ≡ None = ap (λ (n : Needing). n.needs) (by_parts-number needing_step t) in absurd cc
    by_kind (is_string t) is = let e : (needing (json.Str t)).needs ≡ None = ap (λ (n : Needing). n.needs) (by_parts-string needing_step t) in absurd cc
    by_kind (is_list xs) is = (xs, refl)
    by_kind (is_object ms) is = let e : (needing (json.Object ms)).needs ≡ None = ap (λ (n : Needing). n.needs) (by_parts-object needing_step ms) in absurd cc

module _ (v : Json) (xs ys : List Json) (is : v ≡ json.List xs) (same : ys ≡ xs) where
  listed : (needing v).needs ≡ if_fits are_needs (all_of (map need_of ys))
  listed = ap (λ (w : Json). (needing w).needs) is ∙ needs-list xs ∙ ap (λ (zs : List Json). if_fits are_needs (all_of (map need_of zs))) (sym same)

  pub needs_kept : (made : List Need) → all_of (map need_of ys) ≡ Some made → are_needs made ≡ true → (needing v).needs ≡ Some made
  needs_kept made all fit = listed ∙ ap (if_fits are_needs) all ∙ ap (λ (b : Bool). if b then Some made else None) fit

  pub needs_refused : (made : List Need) → all_of (map need_of ys) ≡ Some made → are_needs made ≡ false → (needing v).needs ≡ None
  needs_refused made all fit = listed ∙ ap (if_fits are_needs) all ∙ ap (λ (b : Bool). if b then Some made else None) fit

  pub needs_missing : all_of (map need_of ys) ≡ None → (needing v).needs ≡ None
  needs_missing none = listed ∙ ap (if_fits are_needs) none
