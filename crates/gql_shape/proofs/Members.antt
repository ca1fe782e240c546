-- A member is found by its place.
use Rattle.std.proofs.Common.{◌≡◌, ℕ, suc, ◌+◌, ◌<◌, ◌≤◌, List, [], ◌∷◌, ◌++◌, Some, None, length, get_or, take, add-one, append_assoc, refl, sym, ap, ◌∙◌, arith, inl, inr}
use Rattle.std.proofs.lemmas.List.{append-nil}
use Rattle.std.proofs.Math.Seq.{take-suc}
use Rattle.std.specs.Str.{bytes_eq}
use Rattle.json_value.specs.declared.tree.Json.{Json}
use Rattle.json_value.specs.Members.{named}
use Rattle.gql_terms.specs.declared.documents.Selection.{Selection}
use Rattle.gql_shape.specs.Terms.{Scope, Field, Collection}
use Rattle.gql_shape.specs.Collecting.{Collects, none, next}
use Rattle.gql_shape.specs.Completing.{place_of, joined}
use Rattle.gql_shape.proofs.Spreads.{either}

pub named-at : (name : List ℕ) (ms : List (List ℕ × Json)) (d : List ℕ × Json) → place_of name ms < length ms → named name ms ≡ Some (get_or ms (place_of name ms) d).1
named-at name [] d within = absurd (omega arith)
named-at name (m ∷ ms) d within = elim (either (bytes_eq m.0 name)) [
  | inl this ↦ rw this refl
  | inr other ↦ (
      let lt : suc (place_of name ms) < suc (length ms) = rw other at within in
      rw other (named-at name ms d (omega arith)))
]

pub named-none : (name : List ℕ) (ms : List (List ℕ × Json)) → length ms ≤ place_of name ms → named name ms ≡ None
named-none name [] past = refl
named-none name (m ∷ ms) past = elim (either (bytes_eq m.0 name)) [
  | inl this ↦ (let le : suc (length ms) ≤ 0 = rw this at past in absurd (omega arith))
  | inr other ↦ (
      let le : suc (length ms) ≤ suc (place_of name ms) = rw other at past in
      rw other (named-none name ms (omega arith)))
]

-- ---- the selections of a group

pub joined-more : (fs : List Field) (f : Field) → joined (fs ++ (f ∷ [])) ≡ joined fs ++ f.selections
joined-more [] f = append-nil f.selections
joined-more (g ∷ fs) f = ap (λ (xs : List Selection). g.selections ++ xs) (joined-more fs f) ∙ sym (append_assoc g.selections (joined fs) f.selections)

pub Collects-append : (s : Scope) (type_name : List ℕ) {xs : List Selection} {c d : Collection} → Collects s type_name xs c d → {ys : List Selection} {e : Collection} →
    Collects s type_name ys d e → Collects s type_name (xs ++ ys) c e
Collects-append s type_name none later = later
Collects-append s type_name (next takes rest) later = next takes (Collects-append s type_name rest later)

pub group-more : (first sel : List Selection) (fs : List Field) (i : ℕ) (d : Field) → i < length fs → sel ≡ (get_or fs i d).selections →
    (first ++ joined (take i fs)) ++ sel ≡ first ++ joined (take (i + 1) fs)
group-more first sel fs i d within is =
    let more : take (i + 1) fs ≡ take i fs ++ (get_or fs i d ∷ []) = rw add-one (take-suc fs i d within) in
    rw (more, joined-more (take i fs) (get_or fs i d), is) (append_assoc first (joined (take i fs)) (get_or fs i d).selections)
