-- What merging gives at each pair of kinds.
use Rattle.std.proofs.Common.{◌≡◌, ℕ, Bool, List, [], ◌∷◌, Option, Some, None, refl, ap, ◌∙◌, sym}
use Rattle.std.specs.Prelude.{map}
use Rattle.json_value.specs.declared.tree.Json.{Json, out-Json}
use Rattle.json_value.specs.declared.tree.Json.TheVariants as json
use Rattle.json_value.specs.declared.tree.Json.TheOpen.{Json-F}
use Rattle.json_value.specs.Members.{named}
use Rattle.json_value.specs.Recursion.{by_parts}
use Rattle.json_value.proofs.Parts.{with_made, member_made, by_parts-null, by_parts-bool, by_parts-number, by_parts-string, by_parts-list, by_parts-object}
use Rattle.json_value.proofs.Cases.{Kind, kind_of, is_null, is_bool, is_number, is_string, is_list, is_object, out-null, out-bool, out-number, out-string, out-list, out-object}
use Rattle.merge_paths.specs.Merge.{MergePart, merged, merge, members_with, elements_with, with_other, without}
use Rattle.merge_paths.specs.Levels.{merged_with, merged_members, merged_elements}

abbrev step : Json → Json-F MergePart → Json → Json
step a parts b = merged a parts b (out-Json b)

elements_merged : (xs ys : List Json) → elements_with (map (with_made step) xs) ys ≡ merged_elements xs ys
unfolding merge
elements_merged [] ys = refl
elements_merged (x ∷ xs) [] = ap (λ (zs : List Json). x ∷ zs) (elements_merged xs [] ∙ none xs)
  where
    none : (xs : List Json) → merged_elements xs [] ≡ xs
    none [] = refl
    none (x ∷ xs) = refl
elements_merged (x ∷ xs) (y ∷ ys) = ap (λ (zs : List Json). merge x y ∷ zs) (elements_merged xs ys)

with_merged : (v : Json) (o : Option Json) → with_other (with_made step v) o ≡ merged_with v o
unfolding merge
with_merged v None = refl
with_merged v (Some other) = refl

members_merged : (ms others : List (List ℕ × Json)) → members_with (map (member_made step) ms) others ≡ merged_members ms others
unfolding merge
members_merged [] others = refl
members_merged (m ∷ ms) others = rw (with_merged m.1 (named m.0 others), members_merged ms (without m.0 others)) refl

pub merge-objects : (ms others : List (List ℕ × Json)) → merge (json.Object ms) (json.Object others) ≡ json.Object (merged_members ms others)
unfolding merge
merge-objects ms others = (λ i. by_parts-object step ms i (json.Object others))
    ∙ ap (merged (json.Object ms) (Json-F.Object (map (member_made step) ms)) (json.Object others)) (out-object others)
    ∙ ap json.Object (members_merged ms others)

pub merge-lists : (xs others : List Json) → merge (json.List xs) (json.List others) ≡ json.List (merged_elements xs others)
unfolding merge
merge-lists xs others = (λ i. by_parts-list step xs i (json.List others))
    ∙ ap (merged (json.List xs) (Json-F.List (map (with_made step) xs)) (json.List others)) (out-list others)
    ∙ ap json.List (elements_merged xs others)

under : (a b : Json) (o : Json-F Json) → out-Json b ≡ o → (c : Json) → ((parts : Json-F MergePart) → merged a parts b o ≡ c) → Kind a → merge a b ≡ c
unfolding merge
under _ b o is c same is_null = (λ i. by_parts-null step i b) ∙ ap (merged json.Null Json-F.Null b) is ∙ same Json-F.Null
under _ b o is c same (is_bool x) = (λ i. by_parts-bool step x i b) ∙ ap (merged (json.Bool x) (Json-F.Bool x) b) is ∙ same (Json-F.Bool x)
under _ b o is c same (is_number t) = (λ i. by_parts-number step t i b) ∙ ap (merged (json.Number t) (Json-F.Number t) b) is ∙ same (Json-F.Number t)
under _ b o is c same (is_string t) = (λ i. by_parts-string step t i b) ∙ ap (merged (json.Str t) (Json-F.Str t) b) is ∙ same (Json-F.Str t)
under _ b o is c same (is_list xs) = (λ i. by_parts-list step xs i b) ∙ ap (merged (json.List xs) (Json-F.List (map (with_made step) xs)) b) is ∙ same (Json-F.List (map (with_made step) xs))
under _ b o is c same (is_object ms) = (λ i. by_parts-object step ms i b) ∙ ap (merged (json.Object ms) (Json-F.Object (map (member_made step) ms)) b) is ∙ same (Json-F.Object (map (member_made step) ms))

pub merge-null : (a : Json) → merge a json.Null ≡ a
merge-null a = under a json.Null Json-F.Null out-null a (λ parts. elim parts as (λ p. merged a p json.Null Json-F.Null ≡ a) [
  | Json-F.Null ↦ refl
  | Json-F.Bool b ↦ refl
  | Json-F.Number t ↦ refl
  | Json-F.Str t ↦ refl
  | Json-F.List xs ↦ refl
  | Json-F.Object ms ↦ refl
]) (kind_of a)

pub merge-bool : (a : Json) (x : Bool) → merge a (json.Bool x) ≡ json.Bool x
merge-bool a x = under a (json.Bool x) (Json-F.Bool x) (out-bool x) (json.Bool x) (λ parts. elim parts as (λ p. merged a p (json.Bool x) (Json-F.Bool x) ≡ json.Bool x) [
  | Json-F.Null ↦ refl
  | Json-F.Bool b ↦ refl
  | Json-F.Number t ↦ refl
  | Json-F.Str t ↦ refl
  | Json-F.List xs ↦ refl
  | Json-F.Object ms ↦ refl
]) (kind_of a)

pub merge-number : (a : Json) (x : List ℕ) → merge a (json.Number x) ≡ json.Number x
merge-number a x = under a (json.Number x) (Json-F.Number x) (out-number x) (json.Number x) (λ parts. elim parts as (λ p. merged a p (json.Number x) (Json-F.Number x) ≡ json.Number x) [
  | Json-F.Null ↦ refl
  | Json-F.Bool b ↦ refl
  | Json-F.Number t ↦ refl
  | Json-F.Str t ↦ refl
  | Json-F.List xs ↦ refl
  | Json-F.Object ms ↦ refl
]) (kind_of a)

pub merge-string : (a : Json) (x : List ℕ) → merge a (json.Str x) ≡ json.Str x
merge-string a x = under a (json.Str x) (Json-F.Str x) (out-string x) (json.Str x) (λ parts. elim parts as (λ p. merged a p (json.Str x) (Json-F.Str x) ≡ json.Str x) [
  | Json-F.Null ↦ refl
  | Json-F.Bool b ↦ refl
  | Json-F.Number t ↦ refl
  | Json-F.Str t ↦ refl
  | Json-F.List xs ↦ refl
  | Json-F.Object ms ↦ refl
]) (kind_of a)

-- an object takes the place of what is no object, and a list of what is no list
pub merge-object : (a : Json) (others : List (List ℕ × Json)) → ((ms : List (List ℕ × Json)) → a ≡ json.Object ms → ⊥) → merge a (json.Object others) ≡ json.Object others
unfolding merge
merge-object a others other = by_kind a (kind_of a) other
  where
    by_kind : (a : Json) → Kind a → ((ms : List (List ℕ × Json)) → a ≡ json.Object ms → ⊥) → merge a (json.Object others) ≡ json.Object others
    by_kind _ is_null other = (λ i. by_parts-null step i (json.Object others)) ∙ ap (merged json.Null Json-F.Null (json.Object others)) (out-object others)
    by_kind _ (is_bool x) other = (λ i. by_parts-bool step x i (json.Object others)) ∙ ap (merged (json.Bool x) (Json-F.Bool x) (json.Object others)) (out-object others)
    by_kind _ (is_number t) other = (λ i. by_parts-number step t i (json.Object others)) ∙ ap (merged (json.Number t) (Json-F.Number t) (json.Object others)) (out-object others)
    by_kind _ (is_string t) other = (λ i. by_parts-string step t i (json.Object others)) ∙ ap (merged (json.Str t) (Json-F.Str t) (json.Object others)) (out-object others)
    by_kind _ (is_list xs) other = (λ i. by_parts-list step xs i (json.Object others)) ∙ ap (merged (json.List xs) (Json-F.List (map (with_made step) xs)) (json.Object others)) (out-object others)
    by_kind _ (is_object ms) other = absurd (other ms refl)

pub merge-list : (a : Json) (others : List Json) → ((xs : List Json) → a ≡ json.List xs → ⊥) → merge a (json.List others) ≡ json.List others
unfolding merge
merge-list a others other = by_kind a (kind_of a) other
  where
    by_kind : (a : Json) → Kind a → ((xs : List Json) → a ≡ json.List xs → ⊥) → merge a (json.List others) ≡ json.List others
    by_kind _ is_null other = (λ i. by_parts-null step i (json.List others)) ∙ ap (merged json.Null Json-F.Null (json.List others)) (out-list others)
    by_kind _ (is_bool x) other = (λ i. by_parts-bool step x i (json.List others)) ∙ ap (merged (json.Bool x) (Json-F.Bool x) (json.List others)) (out-list others)
    by_kind _ (is_number t) other = (λ i. by_parts-number step t i (json.List others)) ∙ ap (merged (json.Number t) (Json-F.Number t) (json.List others)) (out-list others)
    by_kind _ (is_string t) other = (λ i. by_parts-string step t i (json.List others)) ∙ ap (merged (json.Str t) (Json-F.Str t) (json.List others)) (out-list others)
    by_kind _ (is_object ms) other = (λ i. by_parts-object step ms i (json.List others)) ∙ ap (merged (json.Object ms) (Json-F.Object (map (member_made step) ms)) (json.List others)) (out-list others)
    by_kind _ (is_list xs) other = absurd (other xs refl)

-- a text, number or truth value takes the place of any
pub merge-other : (a b : Json) → (b ≡ json.Null → ⊥) → ((xs : List Json) → b ≡ json.List xs → ⊥) → ((ms : List (List ℕ × Json)) → b ≡ json.Object ms → ⊥) → merge a b ≡ b
merge-other a b null list object = by_kind (kind_of b) null list object
  where
    by_kind : {b : Json} → Kind b → (b ≡ json.Null → ⊥) → ((xs : List Json) → b ≡ json.List xs → ⊥) → ((ms : List (List ℕ × Json)) → b ≡ json.Object ms → ⊥) → merge a b ≡ b
    by_kind is_null null list object = absurd (null refl)
    by_kind (is_bool x) null list object = merge-bool a x
    by_kind (is_number t) null list object = merge-number a t
    by_kind (is_string t) null list object = merge-string a t
    by_kind (is_list xs) null list object = absurd (list xs refl)
    by_kind (is_object ms) null list object = absurd (object ms refl)
